use Rattle.std.proofs.Common.{rules, ◌≤◌, length, sym, ◌∙◌, arith}
use Rattle.store_core.proofs.ChosenBlocks.{some_chosen, refs_listed}
use Rattle.store_core.proofs.CompactBegins.{compact_spent, compact_free}
use Rattle.store_core.proofs.state.CoreState.admit_blocks.Goals as goal

pub returns-then-next-ge-LAST_FILE-clause-refused : goal.returns-then-next-ge-LAST_FILE-clause-refused
returns-then-next-ge-LAST_FILE-clause-refused c = λ m has apart.
    let some : 1 ≤ length c.in-Ok.chosen.items = search rules in
    compact_spent c.args.self.now m has c.requires.writes c.requires.no_job
    (some_chosen c.in-Ok.chosen.items m.state.blocks (length c.as_slice.result.now) (refs_listed c.args.self.now m c.as_slice.result.now c.as_slice.ensures has) some c.in-Ok.ensures.ascend
    (c.in-Ok.ensures.chosen m.state.blocks (sym has.blocks ∙ sym c.as_slice.ensures)))
    (omega (arith, c.if-next-ge-LAST_FILE.true))

pub returns-else-next-ge-LAST_FILE-clause-free : goal.returns-else-next-ge-LAST_FILE-clause-free
returns-else-next-ge-LAST_FILE-clause-free c = λ m has.
    let some : 1 ≤ length c.in-Ok.chosen.items = search rules in
    compact_free c.args.self.now m has c.requires.writes c.requires.no_job
    (some_chosen c.in-Ok.chosen.items m.state.blocks (length c.as_slice.result.now) (refs_listed c.args.self.now m c.as_slice.result.now c.as_slice.ensures has) some c.in-Ok.ensures.ascend
    (c.in-Ok.ensures.chosen m.state.blocks (sym has.blocks ∙ sym c.as_slice.ensures)))
    (omega (arith, c.if-next-ge-LAST_FILE.false))

use Rattle.std.proofs.Common.{rules, ◌≡◌, ◌≤◌, arith, length}
use Rattle.std.proofs.lemmas.Result.{err_from_is_err_and}
use Rattle.store_state.proofs.Choosing.{level_found, level_empty, level_lacks, level_ascends}
use Rattle.store_state.proofs.choice.choose.Goals as goal

pub returns-then-not-is_empty-clause-chosen : goal.returns-then-not-is_empty-clause-chosen
returns-then-not-is_empty-clause-chosen c = λ listed e.
    let some : 1 ≤ length c.in_ok-chosen.chosen.items = first_of (omega arith, search rules) in
    level_found c.loop-level.level c.args.blocks.now c.in_ok-chosen.chosen.items listed e c.in_ok-chosen.ensures.chosen (omega arith) some (c.loop-level.invariant listed e)

pub returns-then-not-is_empty-clause-ascend : goal.returns-then-not-is_empty-clause-ascend
returns-then-not-is_empty-clause-ascend c = level_ascends c.loop-level.level c.args.blocks.now c.in_ok-chosen.chosen.items c.in_ok-chosen.ensures.chosen

pub returns-in_err-chosen-clause-memory : goal.returns-in_err-chosen-clause-memory
returns-in_err-chosen-clause-memory c =
    let p = err_from_is_err_and c.from_residual.result c.from_residual.ensures.1 in
    rw p.1 (λ listed e. level_lacks c.loop-level.level c.args.blocks.now listed e c.in_err-chosen.ensures.memory (omega arith) (c.loop-level.invariant listed e))

pub loop-level-preserved : goal.loop-level-preserved
loop-level-preserved c = λ listed e.
    let none : length c.in_ok-chosen.chosen.items ≡ 0 = first_of (omega arith, search rules) in
    level_empty c.loop-level.level c.args.blocks.now c.in_ok-chosen.chosen.items listed e c.in_ok-chosen.ensures.chosen (omega arith) none (c.loop-level.invariant listed e)

use Rattle.std.proofs.Common.{◌≤◌, length, sym, ◌∙◌, arith}
use Rattle.store_core.proofs.BeginEvents.{begin_idle, begin_spent, begin_free}
use Rattle.store_core.proofs.state.CoreState.admit_rows.Goals as goal

pub returns-then-head_len-eq0-clause-free : goal.returns-then-head_len-eq0-clause-free
returns-then-head_len-eq0-clause-free c = λ m has. begin_idle c.args.self.now m has c.requires.writes c.requires.none (sym c.head_len.ensures ∙ c.if-head_len-eq0.true)

pub returns-then-next-ge-LAST_FILE-clause-refused : goal.returns-then-next-ge-LAST_FILE-clause-refused
returns-then-next-ge-LAST_FILE-clause-refused c = λ m has.
    let some : 1 ≤ length c.args.self.now.live.head = omega (arith, c.if-head_len-eq0.false, c.head_len.ensures) in
    begin_spent c.args.self.now m has c.requires.writes c.requires.none some (omega (arith, c.if-next-ge-LAST_FILE.true))

pub returns-clause-free : goal.returns-clause-free
returns-clause-free c = λ m has.
    let some : 1 ≤ length c.args.self.now.live.head = omega (arith, c.if-head_len-eq0.false, c.head_len.ensures) in
    begin_free c.args.self.now m has c.requires.writes c.requires.none some (omega (arith, c.if-next-ge-LAST_FILE.false))

pub returns-clause-sure : goal.returns-clause-sure
returns-clause-sure c = λ is. record {
  writes = c.requires.writes;
  none = c.requires.none;
  files = omega (arith, c.if-next-ge-LAST_FILE.false);
  rows = omega (arith, c.if-head_len-eq0.false, c.head_len.ensures);
}

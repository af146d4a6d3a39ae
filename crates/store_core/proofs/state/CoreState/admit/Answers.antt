use Rattle.std.proofs.Common.{arith}
use Rattle.store_core.proofs.States.{none_of}
use Rattle.store_core.proofs.state.CoreState.admit.Goals as goal

pub returns-clause-sure : goal.returns-clause-sure
returns-clause-sure c = (
  none_of c.args.self.now.read_only c.in_default.not-Some,
  omega (arith, c.if-number-ge-MOST_ENTRIES.false),
  omega (arith, c.length-number.ensures.sum, c.if-number-ge-MOST_ENTRIES.false),
)

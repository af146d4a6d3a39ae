-- The rows of the trace are taken, or still to be.
use Rattle.std.proofs.Common.{length}
use Rattle.compactor.specs.Joining.{IsTaking}
use Rattle.compactor.proofs.joining.take_rows.Given as goal

abbrev pub invariant-loop-trace : goal.invariant-loop-trace
invariant-loop-trace l = IsTaking l.trace l.fn.left l.left l.group.items

abbrev pub decreases-loop-trace : goal.decreases-loop-trace
decreases-loop-trace l = length l.left

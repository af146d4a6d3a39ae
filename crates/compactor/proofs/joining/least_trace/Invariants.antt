-- The least trace of the parts so far.
use Rattle.std.proofs.Common.{take}
use Rattle.compactor.specs.Joining.{IsLeast}
use Rattle.compactor.proofs.JoinLaws.{flat}
use Rattle.compactor.proofs.joining.least_trace.Given as goal

abbrev pub invariant-loop-left : goal.invariant-loop-left
invariant-loop-left l = IsLeast l.least (flat (take l.left-index l.lefts))

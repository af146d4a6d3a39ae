-- What the builder has taken, and what is left.
use Rattle.std.proofs.Common.{length}
use Rattle.compactor.specs.Joining.{IsJoining}
use Rattle.compactor.proofs.JoinLaws.{flat}
use Rattle.compactor.proofs.joining.join_in_form.Given as goal

abbrev pub invariant-loop-trace : goal.invariant-loop-trace
invariant-loop-trace l = IsJoining (flat l.parts) (flat l.lefts.items) l.form l.builder

abbrev pub decreases-loop-trace : goal.decreases-loop-trace
decreases-loop-trace l = length (flat l.lefts.items)

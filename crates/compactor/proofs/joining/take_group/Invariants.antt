-- The rows of the trace are taken of the parts so far.
use Rattle.compactor.proofs.JoinLaws.{IsGathering}
use Rattle.compactor.proofs.joining.take_group.Given as goal

abbrev pub invariant-loop-left : goal.invariant-loop-left
invariant-loop-left l = IsGathering l.trace l.fn.lefts l.left-index l.lefts l.group.items

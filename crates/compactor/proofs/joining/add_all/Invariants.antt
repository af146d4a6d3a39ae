-- The rows so far are added.
use Rattle.compactor.proofs.JoinLaws.{IsAdding}
use Rattle.compactor.proofs.joining.add_all.Given as goal

abbrev pub invariant-loop-row : goal.invariant-loop-row
invariant-loop-row l = IsAdding l.fn.rows l.fn.builder l.builder l.row-iterator.rest.items

-- So far it is a start, and the earliest of the rows that were gone over.
use Rattle.block_build.proofs.Moments.{EarliestOf}
use Rattle.block_build.proofs.rows.earliest.Given as goal

abbrev pub invariant-loop-row : goal.invariant-loop-row
invariant-loop-row l = EarliestOf l.rows l.row-index l.earliest

-- So far it is a start, and the latest of the rows that were gone over.
use Rattle.block_build.proofs.Moments.{LatestOf}
use Rattle.block_build.proofs.rows.latest.Given as goal

abbrev pub invariant-loop-row : goal.invariant-loop-row
invariant-loop-row l = LatestOf l.rows l.row-index l.latest

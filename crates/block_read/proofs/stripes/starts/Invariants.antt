-- The starts of the rows so far.
use Rattle.std.proofs.Common.{◌≡◌, take}
use Rattle.block_read.specs.BlockReadings.{starts}
use Rattle.block_read.proofs.stripes.starts.Given as goal

abbrev pub invariant-loop-row : goal.invariant-loop-row
invariant-loop-row l = l.moments.items ≡ starts (take l.row-index l.rows)

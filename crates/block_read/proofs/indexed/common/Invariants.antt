-- So far no byte differs.
use Rattle.std.proofs.Common.{◌≡◌, ◌+◌, ◌≤◌, drop, length}
use Rattle.block_read.specs.BlockReadings.{common}
use Rattle.block_read.proofs.indexed.common.Given as goal

abbrev pub invariant-loop-index : goal.invariant-loop-index
invariant-loop-index l = (common l.wanted l.bytes ≡ l.index + common (drop l.index l.wanted) (drop l.index l.bytes)) × (l.index ≤ length l.bytes)

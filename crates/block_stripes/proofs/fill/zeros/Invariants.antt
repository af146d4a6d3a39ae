use Rattle.std.proofs.Common.{◌≡◌, ◌+◌, drop}
use Rattle.block_stripes.specs.StripeReadings.{zeros}
use Rattle.block_stripes.proofs.fill.zeros.Given as goal

-- The bytes so far are zeros.
abbrev pub invariant-loop-index : goal.invariant-loop-index
invariant-loop-index l = zeros l.bytes ≡ l.index + zeros (drop l.index l.bytes)

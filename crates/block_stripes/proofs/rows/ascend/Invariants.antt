-- So far the rows ascend, and what is left is to follow the last of them.
use Rattle.std.proofs.Common.{◌≡◌, drop}
use Rattle.block_stripes.specs.StripeReadings.{ascend_after}
use Rattle.block_stripes.proofs.rows.ascend.Given as goal

abbrev pub invariant-loop-row : goal.invariant-loop-row
invariant-loop-row l = ascend_after l.before (drop l.row-index l.rest) ≡ ascend_after l.initial.before l.rest

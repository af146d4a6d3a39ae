-- The rows so far, and those of the stripes that are left, are the rows of all stripes.
use Rattle.std.proofs.Common.{◌≡◌, ◌*◌, ◌≤◌, None, drop, length}
use Rattle.block_read.specs.BlockReadings.{stripes_of}
use Rattle.block_read.proofs.StripesWalk.{with_later}
use Rattle.block_read.proofs.stripes.stripes.Given as goal

abbrev pub invariant-loop-entry : goal.invariant-loop-entry
invariant-loop-entry l =
    record {
      told : with_later l.rows.items (stripes_of l.header.form (drop l.entry-index l.header.stripes) l.last l.bytes) ≡ stripes_of l.header.form l.header.stripes None l.bytes;
      few : length l.rows.items ≤ 256 * l.entry-index;
    }

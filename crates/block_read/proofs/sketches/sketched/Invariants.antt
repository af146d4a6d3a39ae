-- What is kept is the outline of the rows so far.
use Rattle.std.proofs.Common.{◌≡◌, ◌*◌, ◌≤◌, None, length}
use Rattle.std.specs.List.{All}
use Rattle.span_types.specs.declared.ids.TraceId.{TraceId}
use Rattle.block_read.specs.BlockReadings.{stripes_of}
use Rattle.block_read.proofs.SketchWalk.{SketchedSoFar}
use Rattle.block_read.proofs.sketches.sketched.Given as goal

abbrev pub invariant-loop-entry : goal.invariant-loop-entry
invariant-loop-entry l =
    record {
      kept : SketchedSoFar (stripes_of l.header.form l.header.stripes None l.bytes) l.header.form l.header.stripes l.entry-index l.last l.bytes l.found;
      few : length l.found.ids ≤ 256 * l.entry-index;
      long : All (λ (id : TraceId). length id.0 ≡ 16) l.found.ids;
    }

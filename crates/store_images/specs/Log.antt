-- Which batches the segments of a log stand for.
use Rattle.std.specs.Prelude.{ℕ, ◌+◌, List, [], ◌∷◌, ◌++◌, length}
use Rattle.span_types.specs.declared.spans.Span.{Span}
use Rattle.disk_model.specs.Images.{Image, bytes_of}
use Rattle.head_log.specs.Stands.{SegmentKeeps}
use Rattle.block_list.specs.declared.body.SegmentRef.{SegmentRef}

-- The segments' files stand for these batches, whose numbers count up from the first one: each segment begins where the one
-- before it ends.
pub data LogHolds (image : Image) : List SegmentRef → ℕ → List (List Span) → Type 0 where
  ended : {number : ℕ} → LogHolds image [] number []
  goes_on : {number : ℕ} {segments : List SegmentRef} {rest : List (List Span)} (file : ℕ) (mine : List (List Span))
      → SegmentKeeps number mine (bytes_of image file)
      → LogHolds image segments (number + length mine) rest
      → LogHolds image (record { file = file; first = number } ∷ segments) number (mine ++ rest)

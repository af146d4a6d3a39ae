-- How a log is read, and where its segments break.
use Rattle.std.specs.Prelude.{◌≡◌, ◌≢◌, ℕ, ◌+◌, ◌≤◌, List, [], ◌∷◌, ◌++◌, length, Err}
use Rattle.span_types.specs.declared.spans.Span.{Span}
use Rattle.disk_model.specs.Images.{Image, bytes_of}
use Rattle.head_log.specs.Scanning.{segment_at}
use Rattle.head_log.specs.Stands.{SegmentHolds}
use Rattle.head_log.specs.declared.segment.Segment.{Segment}
use Rattle.block_list.specs.declared.body.SegmentRef.{SegmentRef}
use Rattle.store_images.specs.Log.{LogHolds}
use Rattle.store_images.specs.Settled.{Tail}

-- a segment, as it is written on
abbrev pub tail_of : Segment → Tail
tail_of segment = record { file = segment.file; first = segment.first; count = segment.count; gate = segment.gate }

-- A segment was read as these batches. `told` says that the disk tells its bytes, which these are.
pub record SegmentRead (told : Type 0) (bytes : List ℕ) (ref : SegmentRef) (mine : List (List Span)) (found : Segment) : Type 0 where
  pub file : found.file ≡ ref.file
  pub first : found.first ≡ ref.first
  pub count : found.count ≡ length mine
  pub few : found.first + found.count ≤ 4294967295
  pub holds : told → SegmentHolds ref.first mine found.gate bytes

-- Segments were read in turn as these batches, whose numbers count up from the first one, and the last of them as this tail: each
-- begins where the one before it ends.
pub record LogRead (told : Type 0) (image : Image) (segments : List SegmentRef) (first : ℕ) (batches : List (List Span)) (tail : Tail) : Type 0 where
  pub front : List SegmentRef
  pub before : List (List Span)
  pub mine : List (List Span)
  pub all : batches ≡ before ++ mine
  pub last : segments ≡ front ++ record { file = tail.file; first = tail.first } ∷ []
  pub counted : length mine ≡ tail.count
  pub follows : tail.first ≡ first + length before
  pub earlier : told → LogHolds image front first before
  pub current : told → SegmentHolds tail.first mine tail.gate (bytes_of image tail.file)

-- A segment's bytes break at this place: the grammar doesn't allow them, or their last gate stands there and the records in front of
-- it don't lead to the number of the segment after it.
pub data SegmentBreaks (ref : SegmentRef) (behind : List SegmentRef) (bytes : List ℕ) (at : ℕ) : Type 0 where
  malformed : segment_at ref.first bytes ≡ Err at → SegmentBreaks ref behind bytes at
  astray : (mine : List (List Span)) (next : SegmentRef) (rest : List SegmentRef) → SegmentHolds ref.first mine at bytes
      → behind ≡ next ∷ rest → next.first ≢ ref.first + length mine → SegmentBreaks ref behind bytes at

-- The first of the segments that breaks does so at this place of this file: those in front of it stand for batches and lead to it.
pub record LogBreaks (image : Image) (segments : List SegmentRef) (first file at : ℕ) : Type 0 where
  pub front : List SegmentRef
  pub here : SegmentRef
  pub behind : List SegmentRef
  pub before : List (List Span)
  pub split : segments ≡ front ++ here ∷ behind
  pub whole : LogHolds image front first before
  pub leads : here.first ≡ first + length before
  pub its_file : file ≡ here.file
  pub breaks : SegmentBreaks here behind (bytes_of image here.file) at

-- What a scan answers.
use Rattle.std.specs.Prelude.{◌≡◌, ℕ, List, length, Result, Ok, Err}
use Rattle.span_types.specs.declared.spans.Span.{Span}
use Rattle.head_log.specs.declared.numbered.NumberedBatch.{NumberedBatch}
use Rattle.head_log.specs.declared.segment.Segment.{Segment}
use Rattle.head_log.specs.declared.read_back.LogError.{LogError}
use Rattle.head_log.specs.declared.read_back.LogError.TheVariants as errors
use Rattle.head_log.specs.Entries.{entries}
use Rattle.head_log.specs.Scanning.{segment_at}

-- the segment of this file as it stands after so many records
pub record IsAt (segment : Segment) (file first count : ℕ) : Type 0 where
  pub file_is : segment.file ≡ file
  pub first_is : segment.first ≡ first
  pub count_is : segment.count ≡ count

-- The answer is what reading the bytes gives, unless the disk failed or memory ran out.
abbrev pub Scans : ℕ → ℕ → List ℕ → Result (Segment × List NumberedBatch) LogError → Type 0
Scans file first bytes (Ok x) = (segment_at first bytes ≡ Ok (x.1, record { whole = bytes; at = x.0.gate })) × IsAt x.0 file first (length x.1)
Scans file first bytes (Err (errors.NotLog f at)) = (f ≡ file) × (segment_at first bytes ≡ Err at)
Scans file first bytes (Err errors.Fault) = Unit {0}
Scans file first bytes (Err errors.Memory) = Unit {0}

-- The answer is these batches and the gate after them, unless the disk failed or memory ran out.
abbrev pub Recalls : ℕ → List (List Span) → ℕ → Result (Segment × List NumberedBatch) LogError → Type 0
Recalls first batches gate (Ok x) = (x.1 ≡ entries first batches) × (x.0.gate ≡ gate)
Recalls first batches gate (Err (errors.NotLog f at)) = ⊥
Recalls first batches gate (Err errors.Fault) = Unit {0}
Recalls first batches gate (Err errors.Memory) = Unit {0}

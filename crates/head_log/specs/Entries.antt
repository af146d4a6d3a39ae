-- Batches with the numbers of their records: what a segment's bytes are read as.
use Rattle.std.specs.Prelude.{ℕ, ◌+◌, List, [], ◌∷◌}
use Rattle.span_types.specs.declared.spans.Span.{Span}
use Rattle.head_log.specs.declared.numbered.NumberedBatch.{NumberedBatch}

-- batches with the numbers from this one on
abbrev pub entries : ℕ → List (List Span) → List NumberedBatch
entries first [] = []
entries first (spans ∷ batches) = record { number = first; batch = record { spans = spans } } ∷ entries (first + 1) batches

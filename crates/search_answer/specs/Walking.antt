-- Private mechanism. Rows in block order, a trace at a time.
use Rattle.std.specs.Prelude.{◌≡◌, ◌≢◌, ℕ, ◌<◌, ◌≤◌, List, [], ◌∷◌, Bool, true, false, Option, Some, All, length, slice_index_or}
use Rattle.std.specs.List.{AllPairs}
use Rattle.std.specs.Ordering.{is_eq}
use Rattle.std.specs.declared.cmp.Ordering.TheVariants.{Less}
use Rattle.moment_range.specs.declared.range.Range.{Range}
use Rattle.span_types.specs.declared.spans.Row.{Row}
use Rattle.span_types.specs.Keys.{row_key}
use Rattle.span_types.specs.Orders.{block_order, trace_cmp}
use Rattle.traceql_value.specs.Spans.{start_of}
use Rattle.search_answer.specs.declared.traces.TraceInRange.{TraceInRange}
use Rattle.search_answer.specs.Answers.{is_in_range}

-- No two rows are of one span, and each stands before the later ones in block order.
pub record IsSorted (rows : List Row) : Type 0 where
  pub apart : AllPairs (λ a b. row_key a ≢ row_key b) rows
  pub ordered : AllPairs (λ a b. block_order a b ≡ Less) rows

-- Whether two rows are of one trace.
abbrev pub of_one_trace : Row → Row → Bool
of_one_trace a b = is_eq (trace_cmp a.span.trace b.span.trace)

-- The first n rows are of one trace, and the row after them isn't of it.
pub record IsFront (rows : List Row) (n : ℕ) : Type 0 where
  pub same : (k : ℕ) (d : Row) → k < n → of_one_trace (slice_index_or rows k d) (slice_index_or rows 0 d) ≡ true
  pub ends : (d : Row) → n < length rows → of_one_trace (slice_index_or rows n d) (slice_index_or rows 0 d) ≡ false

-- No row starts before the first.
abbrev pub FirstStarts : List Row → Type 0
FirstStarts [] = Unit {0}
FirstStarts (r ∷ rows) = All (λ s. r.span.start ≤ s.span.start) rows

-- This is the trace of these rows with its earliest start, and it is in the range.
pub record IsTraceOf (range : Range) (part : List Row) (t : TraceInRange) : Type 0 where
  pub rows : t.rows.now ≡ part
  pub first : (d : Row) → t.trace ≡ (slice_index_or part 0 d).span.trace
  pub starts : t.start ≡ start_of part
  pub within : is_in_range range part ≡ true

-- What is found is the trace of these rows, and it is found where it is in the range.
pub record IsPart (range : Range) (part : List Row) (found : Option TraceInRange) : Type 0 where
  pub only : (t : TraceInRange) → found ≡ Some t → IsTraceOf range part t
  pub whole : is_in_range range part ≡ true → (t : TraceInRange) × (found ≡ Some t)

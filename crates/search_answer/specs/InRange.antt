-- The traces that are in a range, and the order in which a search shows them.
use Rattle.std.specs.Prelude.{◌≡◌, List, Bool, true, All, Contains, map}
use Rattle.std.specs.List.{IsDistinct}
use Rattle.std.specs.Ordering.{is_eq, nat_cmp, ordering_then}
use Rattle.std.specs.declared.cmp.Ordering.{Ordering}
use Rattle.moment_range.specs.declared.range.Range.{Range}
use Rattle.rows_by_trace.specs.Traces.{rows_of_trace}
use Rattle.span_types.specs.declared.ids.TraceId.{TraceId}
use Rattle.span_types.specs.declared.spans.Row.{Row}
use Rattle.span_types.specs.Orders.{trace_cmp}
use Rattle.traceql_value.specs.Spans.{start_of}
use Rattle.search_answer.specs.declared.traces.TraceInRange.{TraceInRange}
use Rattle.search_answer.specs.Answers.{is_in_range}

-- This is a trace of the rows with its earliest start, and it is in the range.
pub record IsInRange (range : Range) (rows : List Row) (t : TraceInRange) : Type 0 where
  pub whole : t.rows.now ≡ rows_of_trace t.trace rows
  pub starts : t.start ≡ start_of t.rows.now
  pub within : is_in_range range t.rows.now ≡ true

-- whether two are of one trace
abbrev pub is_same_trace : TraceInRange → TraceInRange → Bool
is_same_trace s t = is_eq (trace_cmp s.trace t.trace)

-- Each trace of the rows that is in the range, once, and no others.
pub record AreInRange (range : Range) (rows : List Row) (traces : List TraceInRange) : Type 0 where
  pub only : All (IsInRange range rows) traces
  pub whole : (id : TraceId) → is_in_range range (rows_of_trace id rows) ≡ true
      → (t : TraceInRange) × Contains traces t × (t.trace ≡ id)
  pub once : IsDistinct is_same_trace traces

-- the latest start first; of one start by trace id
abbrev pub trace_rank_cmp : TraceInRange → TraceInRange → Ordering
trace_rank_cmp s t = ordering_then (nat_cmp t.start s.start) (trace_cmp s.trace t.trace)

-- the rows of each trace
abbrev pub rows_of_each : List TraceInRange → List (List Row)
rows_of_each traces = map (λ t. t.rows.now) traces

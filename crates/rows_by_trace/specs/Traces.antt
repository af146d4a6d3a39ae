-- The rows of one trace among others, as contracts of looks, blocks, queries and merges speak of them.
use Rattle.std.specs.Prelude.{List, filter, Bool}
use Rattle.std.specs.Ordering.{is_eq}
use Rattle.span_types.specs.declared.ids.TraceId.{TraceId}
use Rattle.span_types.specs.declared.spans.Row.{Row}
use Rattle.span_types.specs.Orders.{trace_cmp}

-- The row is of the trace.
abbrev pub is_of_trace : TraceId → Row → Bool
is_of_trace id r = is_eq (trace_cmp r.span.trace id)

-- The rows of a trace among others, in their order.
abbrev pub rows_of_trace : TraceId → List Row → List Row
rows_of_trace id rows = filter (is_of_trace id) rows

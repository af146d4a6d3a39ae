-- The orders of ids, keys, places and rows. An id is ordered by its bytes.
use Rattle.std.specs.declared.cmp.Ordering.{Ordering}
use Rattle.std.specs.Ordering.{nat_cmp, ordering_then}
use Rattle.std.specs.Cmp.Lexicographic.{slice_cmp}
use Rattle.span_types.specs.declared.ids.TraceId.{TraceId}
use Rattle.span_types.specs.declared.ids.SpanId.{SpanId}
use Rattle.span_types.specs.declared.ids.Key.{Key}
use Rattle.span_types.specs.declared.ids.Place.{Place}
use Rattle.span_types.specs.declared.spans.Row.{Row}

-- Trace ids by their bytes.
abbrev pub trace_cmp : TraceId → TraceId → Ordering
trace_cmp a b = slice_cmp nat_cmp a.0 b.0

-- Span ids by their bytes.
abbrev pub span_cmp : SpanId → SpanId → Ordering
span_cmp a b = slice_cmp nat_cmp a.0 b.0

-- Keys by the trace, then by the span.
abbrev pub key_cmp : Key → Key → Ordering
key_cmp a b = ordering_then (trace_cmp a.trace b.trace) (span_cmp a.span b.span)

-- Places by the push, then by the position in it.
abbrev pub place_cmp : Place → Place → Ordering
place_cmp a b = ordering_then (nat_cmp a.number b.number) (nat_cmp a.position b.position)

-- Trace order: rows by their start, then by their span's id.
abbrev pub trace_order : Row → Row → Ordering
trace_order a b = ordering_then (nat_cmp a.span.start b.span.start) (span_cmp a.span.id b.span.id)

-- Block order: rows by their trace, then in trace order.
abbrev pub block_order : Row → Row → Ordering
block_order a b = ordering_then (trace_cmp a.span.trace b.span.trace) (trace_order a b)

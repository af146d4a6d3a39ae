-- Rows in order of trace.
use Rattle.std.specs.Prelude.{◌≡◌, List, Option, None, Some}
use Rattle.std.specs.List.Sorted.{IsSortedByKey}
use Rattle.span_types.specs.declared.ids.TraceId.{TraceId}
use Rattle.span_types.specs.declared.spans.Row.{Row}
use Rattle.span_types.specs.Orders.{trace_cmp}
use Rattle.rows_by_trace.specs.Traces.{rows_of_trace}

-- no row's trace is below that of the row before it
abbrev pub AreByTrace : List Row → Type 0
AreByTrace rows = IsSortedByKey (λ row. row.span.trace) trace_cmp rows

-- a run, if there is one, has the rows of each trace in their order
abbrev pub AreGroupsOf : Option (List Row) → List Row → Type 0
AreGroupsOf None rows = Unit {0}
AreGroupsOf (Some run) rows = (trace : TraceId) → rows_of_trace trace run ≡ rows_of_trace trace rows

-- Private mechanism. What is computed once from all rows of a trace.
use Rattle.std.specs.Prelude.{◌≡◌, List}
use Rattle.std.specs.Option.{option_map}
use Rattle.span_types.specs.declared.spans.Row.{Row}
use Rattle.traceql_value.specs.declared.trace.Summary.{Summary}
use Rattle.traceql_value.specs.Spans.{root_of, service_of, start_of, trace_nanos}

-- The summary is that of these rows: the root, what names its service, the start and the length.
abbrev pub IsSummaryOf : List Row → Summary → Type 0
IsSummaryOf rows s =
    (option_map (λ r. r.now) s.root ≡ root_of rows) × (option_map (λ v. v.now) s.service ≡ service_of (root_of rows)) × (s.start ≡ start_of rows) × (s.nanos ≡ trace_nanos rows)

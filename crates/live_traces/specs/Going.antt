-- Which live rows go, by a map of last moments. (Private: no contract of a public call cites it.)
use Rattle.std.specs.Prelude.{ℕ, Bool, Option, unwrap_or}
use Rattle.std.specs.BTreeMap.{BTreeMap, get}
use Rattle.span_types.specs.declared.ids.TraceId.{TraceId}
use Rattle.span_types.specs.declared.spans.Row.{Row}
use Rattle.span_types.specs.Orders.{trace_cmp}
use Rattle.store_model.specs.State.{LiveRow}
use Rattle.live_traces.specs.Parts.{goes_by}

abbrev pub row_goes : Option ℕ → BTreeMap TraceId ℕ → Row → Bool
row_goes idle last row = goes_by idle (unwrap_or (get trace_cmp last row.span.trace) 0)

abbrev pub goes_with : Option ℕ → BTreeMap TraceId ℕ → LiveRow → Bool
goes_with idle last entry = row_goes idle last entry.row

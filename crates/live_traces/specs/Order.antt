-- Where the rows of each trace stand in a push. (Private: no contract of a public call cites it.)
use Rattle.std.specs.Prelude.{◌≡◌, List, [], ◌∷◌, Some, filter, slice_get}
use Rattle.std.specs.List.Sorted.{IsSortedByKey}
use Rattle.std.specs.Ordering.{is_eq}
use Rattle.span_types.specs.declared.ids.TraceId.{TraceId}
use Rattle.span_types.specs.declared.spans.Row.{Row}
use Rattle.span_types.specs.Orders.{trace_cmp}
use Rattle.rows_by_trace.specs.Traces.{rows_of_trace}
use Rattle.live_traces.specs.declared.order.Spot.{Spot}

-- the spots of a trace, in their order
abbrev pub spots_of : TraceId → List Spot → List Spot
spots_of trace spots = filter (λ spot. is_eq (trace_cmp spot.trace trace)) spots

-- a row of the spot's trace stands there
pub record IsSpotOf (rows : List Row) (spot : Spot) (row : Row) : Type 0 where
  pub trace : spot.trace ≡ row.span.trace
  pub here : slice_get rows spot.at ≡ Some row

-- each spot is where the row of the same number stands among all rows of the push
abbrev pub AreSpotsOf : List Row → List Spot → List Row → Type 0
AreSpotsOf all [] [] = Unit {0}
AreSpotsOf all [] (row ∷ rows) = ⊥
AreSpotsOf all (spot ∷ spots) [] = ⊥
AreSpotsOf all (spot ∷ spots) (row ∷ rows) = IsSpotOf all spot row × AreSpotsOf all spots rows

-- spots by trace: of each trace those of its rows, in their order
pub record IsOrderOf (order : List Spot) (rows : List Row) : Type 0 where
  pub sorted : IsSortedByKey (λ spot. spot.trace) trace_cmp order
  pub groups : (trace : TraceId) → AreSpotsOf rows (spots_of trace order) (rows_of_trace trace rows)

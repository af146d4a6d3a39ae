-- Which live rows a cut moves to the head, and in which order.
use Rattle.std.specs.Prelude.{ℕ, ◌+◌, nat_le, Bool, if◌then◌else◌, List, [], ◌∷◌, filter}
use Rattle.std.specs.Ordering.{is_lt, is_eq, ordering_then}
use Rattle.std.specs.List.Sorted.{IsSortedBy, IsPermutation}
use Rattle.std.specs.declared.cmp.Ordering.{Ordering}
use Rattle.span_types.specs.declared.ids.TraceId.{TraceId}
use Rattle.span_types.specs.declared.spans.Row.{Row}
use Rattle.span_types.specs.Orders.{trace_cmp, place_cmp}
use Rattle.store_model.specs.State.{LiveRow, live_rows}

-- the moment of the last push of a trace, and the one before where it has no live row
abbrev pub last_moment : TraceId → ℕ → List LiveRow → ℕ
last_moment trace before [] = before
last_moment trace before (entry ∷ live) =
    last_moment trace (if is_eq (trace_cmp entry.row.span.trace trace) then entry.moment else before) live

-- whether ten seconds have passed since the last push of the row's trace
abbrev pub is_idle : ℕ → List LiveRow → LiveRow → Bool
is_idle moment live entry = nat_le (last_moment entry.row.span.trace 0 live + 10000000000) moment

-- by trace id and then place
abbrev pub cut_order : Row → Row → Ordering
cut_order a b = ordering_then (trace_cmp a.span.trace b.span.trace) (place_cmp a.place b.place)

-- `moved` are the live rows that go, in the order in which they go to the head
pub record AreMoved (goes : LiveRow → Bool) (live : List LiveRow) (moved : List Row) : Type 0 where
  pub rows : IsPermutation (live_rows (filter goes live)) moved
  pub order : IsSortedBy (λ a b. is_lt (cut_order a b)) moved

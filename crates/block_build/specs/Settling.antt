-- ---- for private clauses: which of neighbours of one span stay
use Rattle.std.specs.Prelude.{List, [], ◌∷◌, if◌then◌else◌}
use Rattle.std.specs.declared.cmp.Ordering.{Ordering}
use Rattle.std.specs.Ordering.{is_eq, is_lt, ordering_then}
use Rattle.span_types.specs.declared.spans.Row.{Row}
use Rattle.span_types.specs.Orders.{place_cmp, span_cmp, trace_cmp}

-- rows by the span's id, then by the trace
abbrev pub id_order : Row → Row → Ordering
id_order a b = ordering_then (span_cmp a.span.id b.span.id) (trace_cmp a.span.trace b.span.trace)

-- which of two rows came in first; of one place it is the former
abbrev pub earlier : Row → Row → Row
earlier a b = if is_lt (place_cmp b.place a.place) then b else a

-- of a row and its neighbours of one span the one that came in first, and so on among those after them
abbrev pub firsts_behind : Row → List Row → List Row
firsts_behind best [] = best ∷ []
firsts_behind best (next ∷ rows) = if is_eq (id_order best next) then firsts_behind (earlier best next) rows else best ∷ firsts_behind next rows

unfoldable pub firsts_by_id : List Row → List Row
firsts_by_id [] = []
firsts_by_id (first ∷ rows) = firsts_behind first rows

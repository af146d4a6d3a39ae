-- Where the rows of each trace stand in a push.
use Rattle.std.proofs.Common.{add-one, ◌≡◌, ℕ, ◌+◌, ◌<◌, zero, suc, Bool, true, false, List, [], ◌∷◌, ◌++◌, Some, refl, sym, ◌∙◌, ap, subst, arith, append_assoc, length, take, if◌then◌else◌, slice_get, slice_index_or}
use Rattle.std.specs.List.Sorted.{IsSortedByKey}
use Rattle.std.specs.Ordering.{is_eq}
use Rattle.span_types.specs.declared.ids.TraceId.{TraceId}
use Rattle.span_types.specs.declared.spans.Row.{Row}
use Rattle.span_types.specs.Orders.{trace_cmp}
use Rattle.rows_by_trace.specs.Traces.{rows_of_trace}
use Rattle.live_traces.specs.Rows.{ChunkParts, chunk_rows}
use Rattle.live_traces.specs.Order.{AreSpotsOf, IsOrderOf, IsSpotOf, spots_of}
use Rattle.live_traces.specs.declared.order.Spot.{Spot}
use Rattle.live_traces.proofs.ChunkRows.{take_whole}

-- the rows one after another
pub spots_begin : (all : List Row) (spots : List Spot) → spots ≡ [] → AreSpotsOf all spots []
spots_begin all spots e = subst (λ q. AreSpotsOf all q []) (sym e) tt

spot_more : (all : List Row) (spots : List Spot) (rows : List Row) (spot : Spot) (row : Row) → AreSpotsOf all spots rows → IsSpotOf all spot row →
    AreSpotsOf all (spots ++ spot ∷ []) (rows ++ row ∷ [])
spot_more all [] [] spot row h is = (is, tt)
spot_more all [] (r ∷ rs) spot row h is = absurd h
spot_more all (s ∷ ss) [] spot row h is = absurd h
spot_more all (s ∷ ss) (r ∷ rs) spot row h is = (h.0, spot_more all ss rs spot row h.1 is)

pub noted_more : (all rows more : List Row) (spots new : List Spot) (spot : Spot) (row : Row) → AreSpotsOf all spots rows → new ≡ spots ++ spot ∷ [] →
    spot.trace ≡ row.span.trace → slice_get all spot.at ≡ Some row → more ≡ rows ++ row ∷ [] → AreSpotsOf all new more
noted_more all rows more spots new spot row h n t is e =
    subst (λ q. AreSpotsOf all q more) (sym n)
    (subst (AreSpotsOf all (spots ++ spot ∷ [])) (sym e) (spot_more all spots rows spot row h (record { trace = t; here = is })))

-- the spots of a trace are those of its rows
spots_of_rows : (all : List Row) (trace : TraceId) (spots : List Spot) (rows : List Row) → AreSpotsOf all spots rows →
    AreSpotsOf all (spots_of trace spots) (rows_of_trace trace rows)
spots_of_rows all trace [] [] h = tt
spots_of_rows all trace [] (row ∷ rows) h = absurd h
spots_of_rows all trace (spot ∷ spots) [] h = absurd h
spots_of_rows all trace (spot ∷ spots) (row ∷ rows) h =
    by_test (is_eq (trace_cmp spot.trace trace)) (is_eq (trace_cmp row.span.trace trace)) (ap (λ t. is_eq (trace_cmp t trace)) h.0.trace) h.0 (spots_of_rows all trace spots rows h.1)
  where
    by_test : (s t : Bool) → s ≡ t → IsSpotOf all spot row → AreSpotsOf all (spots_of trace spots) (rows_of_trace trace rows) →
        AreSpotsOf all (if s then spot ∷ spots_of trace spots else spots_of trace spots) (if t then row ∷ rows_of_trace trace rows else rows_of_trace trace rows)
    by_test true true e is more = (is, more)
    by_test true false e is more = cc
    by_test false true e is more = cc
    by_test false false e is more = more

pub order_groups : (spots order : List Spot) (rows : List Row) → AreSpotsOf rows spots rows → IsSortedByKey (λ (s : Spot). s.trace) trace_cmp order →
    ((t : TraceId) → spots_of t order ≡ spots_of t spots) → IsOrderOf order rows
order_groups spots order rows h sorted kept = record {
  sorted = sorted;
  groups = λ t. subst (λ q. AreSpotsOf rows q (rows_of_trace t rows)) (sym (kept t)) (spots_of_rows rows t spots rows h);
}

-- the spots of a trace in a push, said of other names
pub group_at : (trace : TraceId) (order own group : List Spot) (c d : ChunkParts) → IsOrderOf order (chunk_rows c) → c ≡ d → own ≡ order → group ≡ spots_of trace own →
    AreSpotsOf (chunk_rows d) group (rows_of_trace trace (chunk_rows d))
group_at trace order own group c d h e o g =
    subst (λ q. AreSpotsOf (chunk_rows d) q (rows_of_trace trace (chunk_rows d))) (sym (g ∙ ap (spots_of trace) o))
    (subst (λ (p : ChunkParts). AreSpotsOf (chunk_rows p) (spots_of trace order) (rows_of_trace trace (chunk_rows p))) e (h.groups trace))

-- the spot at a place, whatever stands where there is none
abbrev no_spot : Spot
no_spot = record { trace = record { 0 = [] }; at = 0 }

abbrev pub spot_at : List Spot → ℕ → Spot
spot_at spots i = slice_index_or spots i no_spot

same_item : {X : Type 0} (xs : List X) (i : ℕ) (d e : X) → i < length xs → slice_index_or xs i d ≡ slice_index_or xs i e
same_item [] i d e l = absurd (omega (arith, l))
same_item (x ∷ xs) zero d e l = refl
same_item (x ∷ xs) (suc i) d e l = same_item xs i d e (omega (arith, l))

pub spot_is : (spots : List Spot) (i : ℕ) → i < length spots → slice_index_or spots i (spot_at spots i) ≡ spot_at spots i
spot_is spots i l = same_item spots i (spot_at spots i) no_spot l

-- the row of a spot, among the rows of all of them
found_some : (rows : List Row) (at : ℕ) (row : Row) → slice_get rows at ≡ Some row → at < length rows
found_some [] at row h = cc
found_some (r ∷ rows) zero row h = omega arith
found_some (r ∷ rows) (suc at) row h = let more = found_some rows at row h in omega (arith, more)

pub only_at : (all : List Row) (spots : List Spot) (rows : List Row) (i : ℕ) (spot : Spot) → AreSpotsOf all spots rows → i < length spots → slice_index_or spots i spot ≡ spot → spot.at < length all
only_at all [] rows i spot h l is = absurd (omega (arith, l))
only_at all (s ∷ ss) [] i spot h l is = absurd h
only_at all (s ∷ ss) (r ∷ rs) zero spot h l is = found_some all spot.at r (ap (λ (q : Spot). slice_get all q.at) (sym is) ∙ h.0.here)
only_at all (s ∷ ss) (r ∷ rs) (suc i) spot h l is = only_at all ss rs i spot h.1 (omega (arith, l)) is

row_of_spot : (all : List Row) (spots : List Spot) (rows : List Row) (i : ℕ) (spot : Spot) (row : Row) → AreSpotsOf all spots rows → i < length spots → slice_index_or spots i spot ≡ spot →
    slice_get all spot.at ≡ Some row → take (suc i) rows ≡ take i rows ++ row ∷ []
row_of_spot all [] rows i spot row h l is here = absurd (omega (arith, l))
row_of_spot all (s ∷ ss) [] i spot row h l is here = absurd h
row_of_spot all (s ∷ ss) (r ∷ rs) zero spot row h l is here =
    let found : Some r ≡ Some row = sym h.0.here ∙ ap (λ (q : Spot). slice_get all q.at) is ∙ here in
    let same : r ≡ row = cc in
    ap (λ q. q ∷ []) same
row_of_spot all (s ∷ ss) (r ∷ rs) (suc i) spot row h l is here = ap (λ q. r ∷ q) (row_of_spot all ss rs i spot row h.1 (omega (arith, l)) is here)

-- copies of the rows of spots, one after another
pub group_more : (all : List Row) (spots : List Spot) (rows : List Row) (i : ℕ) (spot : Spot) (base old new : List Row) (row : Row) → AreSpotsOf all spots rows →
    i < length spots → slice_index_or spots i spot ≡ spot → slice_get all spot.at ≡ Some row → new ≡ old ++ row ∷ [] → old ≡ base ++ take i rows → new ≡ base ++ take (i + 1) rows
group_more all spots rows i spot base old new row h l is here n o =
    n ∙ ap (λ q. q ++ row ∷ []) o ∙ append_assoc base (take i rows) (row ∷ [])
    ∙ ap (λ q. base ++ q) (sym (row_of_spot all spots rows i spot row h l is here)) ∙ ap (λ n. base ++ take n rows) (sym (add-one i))

same_length : (all : List Row) (spots : List Spot) (rows : List Row) → AreSpotsOf all spots rows → length spots ≡ length rows
same_length all [] [] h = refl
same_length all [] (row ∷ rows) h = absurd h
same_length all (spot ∷ spots) [] h = absurd h
same_length all (spot ∷ spots) (row ∷ rows) h = ap suc (same_length all spots rows h.1)

pub group_all : (all : List Row) (spots : List Spot) (rows : List Row) (i : ℕ) (base new : List Row) → AreSpotsOf all spots rows → i ≡ length spots → new ≡ base ++ take i rows → new ≡ base ++ rows
group_all all spots rows i base new h e n = n ∙ ap (λ q. base ++ q) (take_whole rows i (e ∙ same_length all spots rows h))

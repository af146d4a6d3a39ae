-- Items in order of trace, and those of one trace among them.
use Rattle.std.proofs.Common.{◌≡◌, ◌⊎◌, inl, inr, ◌&&◌, ◌||◌, not, ℕ, zero, suc, ◌+◌, ◌<◌, ◌≤◌, Bool, true, false, List, [], ◌∷◌, refl, sym, ◌∙◌, ap, arith, length, filter, take, drop, if◌then◌else◌, slice_index_or, length-take}
use Rattle.std.specs.Cmp.{IsTotalOrder}
use Rattle.std.specs.Ordering.{is_eq, is_le, is_lt, ordering_index, ordering_reverse, ordering_then}
use Rattle.std.specs.declared.cmp.Ordering.{Ordering}
use Rattle.std.specs.declared.cmp.Ordering.TheVariants.{Less, Equal, Greater}
use Rattle.std.specs.List.{list_any}
use Rattle.std.specs.List.Sorted.{IsNonDecreasingBy, IsPartitionedBy, IsPartitionPoint, IsPermutation, IsSortedBy, IsSortedByKey, IsStableBy, ties}
use Rattle.std.proofs.lemmas.Cmp.{nat_list_cmp_total, on_total}
use Rattle.std.proofs.lemmas.List.{get_or-drop, get_or-take}
use Rattle.std.proofs.lemmas.List.Sorted.{list_any-IsPermutation, searchable_from_sorted}
use Rattle.span_types.specs.declared.ids.TraceId.{TraceId}
use Rattle.span_types.specs.declared.spans.Row.{Row}
use Rattle.span_types.specs.Orders.{place_cmp, trace_cmp}
use Rattle.store_model.specs.Cut.{cut_order}
use Rattle.live_traces.specs.ByTrace.{AreByTrace}
use Rattle.live_traces.proofs.TraceRows.{filter_same}

pub trace_cmp_total : IsTotalOrder trace_cmp
trace_cmp_total = on_total (λ (t : TraceId). t.0) nat_list_cmp_total

-- an answer that is no higher passes what the higher one passes
lt_below : (a b : Ordering) → ordering_index a ≤ ordering_index b → is_lt b ≡ true → is_lt a ≡ true
lt_below Less b h t = refl
lt_below Equal Less h t = absurd (omega (arith, h))
lt_below Equal Equal h t = t
lt_below Equal Greater h t = cc
lt_below Greater Less h t = absurd (omega (arith, h))
lt_below Greater Equal h t = cc
lt_below Greater Greater h t = t

le_below : (a b : Ordering) → ordering_index a ≤ ordering_index b → is_le b ≡ true → is_le a ≡ true
le_below Less b h t = refl
le_below Equal b h t = refl
le_below Greater Less h t = absurd (omega (arith, h))
le_below Greater Equal h t = absurd (omega (arith, h))
le_below Greater Greater h t = t

rising : {X : Type 0} (key : X → TraceId) (xs : List X) (t : TraceId) → IsSortedByKey key trace_cmp xs → IsNonDecreasingBy (λ y. ordering_index (trace_cmp (key y) t)) xs
rising key xs t h = searchable_from_sorted trace_cmp_total key xs t h

pub parted_lt : {X : Type 0} (key : X → TraceId) (xs : List X) (t : TraceId) → IsSortedByKey key trace_cmp xs → IsPartitionedBy (λ y. is_lt (trace_cmp (key y) t)) xs
parted_lt key xs t h = λ i j d l b p.
    lt_below (trace_cmp (key (slice_index_or xs i d)) t) (trace_cmp (key (slice_index_or xs j d)) t) (rising key xs t h i j d l b) p

pub parted_le : {X : Type 0} (key : X → TraceId) (xs : List X) (t : TraceId) → IsSortedByKey key trace_cmp xs → IsPartitionedBy (λ y. is_le (trace_cmp (key y) t)) xs
parted_le key xs t h = λ i j d l b p.
    le_below (trace_cmp (key (slice_index_or xs i d)) t) (trace_cmp (key (slice_index_or xs j d)) t) (rising key xs t h i j d l b) p

-- where the answers below a place are `Less`, and those from another one on `Greater`
abbrev pub Begins : {X : Type 0} → (X → Ordering) → List X → ℕ → Type 0
Begins o xs from = IsPartitionPoint (λ y. is_lt (o y) ≡ true) (λ y. is_lt (o y) ≡ false) xs from

abbrev pub Ends : {X : Type 0} → (X → Ordering) → List X → ℕ → Type 0
Ends o xs to = IsPartitionPoint (λ y. is_le (o y) ≡ true) (λ y. is_le (o y) ≡ false) xs to

lt_and_gt : (o : Ordering) → is_lt o ≡ true → is_le o ≡ false → ⊥
lt_and_gt Less h g = cc
lt_and_gt Equal h g = cc
lt_and_gt Greater h g = cc

not_le : (o : Ordering) → is_le o ≡ false → is_eq o ≡ false
not_le Less h = cc
not_le Equal h = cc
not_le Greater h = refl

is_lt_no : (o : Ordering) → is_lt o ≡ true → is_eq o ≡ false
is_lt_no Less h = refl
is_lt_no Equal h = cc
is_lt_no Greater h = cc

in_between : (o : Ordering) → is_lt o ≡ false → is_le o ≡ true → is_eq o ≡ true
in_between Less h g = cc
in_between Equal h g = refl
in_between Greater h g = cc

pub begins_first : {X : Type 0} (o : X → Ordering) (xs : List X) (from to : ℕ) → Begins o xs from → Ends o xs to → from ≤ length xs → from ≤ to
begins_first o [] from to b e l = omega (arith, l)
begins_first o (x ∷ xs) zero to b e l = omega arith
begins_first o (x ∷ xs) (suc from) zero b e l = absurd (lt_and_gt (o x) (b.0 0 x (omega arith) (omega arith)) (e.1 0 x (omega arith) (omega arith)))
begins_first o (x ∷ xs) (suc from) (suc to) b e l =
    let less = begins_first o xs from to
    (λ k d l h. b.0 (suc k) d (omega arith) (omega (arith, h)), λ k d l h. b.1 (suc k) d (omega (arith, l)) (omega (arith, h)))
    (λ k d l h. e.0 (suc k) d (omega arith) (omega (arith, h)), λ k d l h. e.1 (suc k) d (omega (arith, l)) (omega (arith, h)))
    (omega (arith, l)) in
    omega (arith, less)

pub group_is : {X : Type 0} (o : X → Ordering) (xs : List X) (from to : ℕ) → Begins o xs from → Ends o xs to → from ≤ to → to ≤ length xs →
    drop from (take to xs) ≡ filter (λ y. is_eq (o y)) xs
group_is o [] zero zero b e l w = refl
group_is o [] zero (suc to) b e l w = absurd (omega (arith, w))
group_is o [] (suc from) zero b e l w = absurd (omega (arith, l))
group_is o [] (suc from) (suc to) b e l w = absurd (omega (arith, w))
group_is o (x ∷ xs) zero zero b e l w =
    group_is o xs 0 0 (λ k d l h. absurd (omega (arith, h)), λ k d l h. b.1 (suc k) d (omega arith) (omega (arith, h)))
    (λ k d l h. absurd (omega (arith, h)), λ k d l h. e.1 (suc k) d (omega arith) (omega (arith, h))) (omega arith) (omega arith)
    ∙ ap (λ t. if t then x ∷ filter (λ y. is_eq (o y)) xs else filter (λ y. is_eq (o y)) xs) (sym (not_le (o x) (e.1 0 x (omega arith) (omega arith))))
group_is o (x ∷ xs) zero (suc to) b e l w =
    ap (λ ys. x ∷ ys)
    (group_is o xs 0 to (λ k d l h. absurd (omega (arith, h)), λ k d l h. b.1 (suc k) d (omega arith) (omega (arith, h)))
    (λ k d l h. e.0 (suc k) d (omega arith) (omega (arith, h)), λ k d l h. e.1 (suc k) d (omega (arith, l)) (omega (arith, h))) (omega arith) (omega (arith, w)))
    ∙ ap (λ t. if t then x ∷ filter (λ y. is_eq (o y)) xs else filter (λ y. is_eq (o y)) xs)
    (sym (in_between (o x) (b.1 0 x (omega arith) (omega arith)) (e.0 0 x (omega arith) (omega arith))))
group_is o (x ∷ xs) (suc from) zero b e l w = absurd (omega (arith, l))
group_is o (x ∷ xs) (suc from) (suc to) b e l w =
    group_is o xs from to
    (λ k d l h. b.0 (suc k) d (omega arith) (omega (arith, h)), λ k d l h. b.1 (suc k) d (omega (arith, l)) (omega (arith, h)))
    (λ k d l h. e.0 (suc k) d (omega arith) (omega (arith, h)), λ k d l h. e.1 (suc k) d (omega (arith, l)) (omega (arith, h)))
    (omega (arith, l)) (omega (arith, w))
    ∙ ap (λ t. if t then x ∷ filter (λ y. is_eq (o y)) xs else filter (λ y. is_eq (o y)) xs) (sym (is_lt_no (o x) (b.0 0 x (omega arith) (omega arith))))

-- a part of rows that are in order, and rows in the order of a cut
pub part_by_trace : (rows : List Row) (from size : ℕ) → from + size ≤ length rows → AreByTrace rows → AreByTrace (take size (drop from rows))
part_by_trace rows from size w h = λ k d l b.
    let within : k + 1 < size = omega (arith, b, part_length rows from size) in
    let one : slice_index_or (take size (drop from rows)) (k + 1) d ≡ slice_index_or rows (from + (k + 1)) d =
    get_or-take size (drop from rows) (k + 1) d within ∙ get_or-drop from rows (k + 1) d in
    let two : slice_index_or (take size (drop from rows)) k d ≡ slice_index_or rows (from + k) d =
    get_or-take size (drop from rows) k d (omega (arith, within)) ∙ get_or-drop from rows k d in
    ap (λ (r : Row). is_lt (trace_cmp r.span.trace (slice_index_or (take size (drop from rows)) k d).span.trace)) one
    ∙ ap (λ (r : Row). is_lt (trace_cmp (slice_index_or rows (from + (k + 1)) d).span.trace r.span.trace)) two
    ∙ ap (λ n. is_lt (trace_cmp (slice_index_or rows n d).span.trace (slice_index_or rows (from + k) d).span.trace)) (next from k)
    ∙ h (from + k) d (omega arith) (omega (arith, within, w))
  where
    next : (from k : ℕ) → from + (k + 1) ≡ from + k + 1
    next from k = omega arith

    part_length : (rows : List Row) (from size : ℕ) → length (take size (drop from rows)) ≤ size
    part_length rows from size = omega (arith, length-take size (drop from rows))

first_decides : (o p : Ordering) → is_lt (ordering_then o p) ≡ false → is_lt o ≡ false
first_decides Less p h = cc
first_decides Equal p h = refl
first_decides Greater p h = refl

pub cut_by_trace : (rows : List Row) → IsSortedBy (λ a b. is_lt (cut_order a b)) rows → AreByTrace rows
cut_by_trace rows h = λ k d l b.
    first_decides (trace_cmp (slice_index_or rows (k + 1) d).span.trace (slice_index_or rows k d).span.trace)
    (place_cmp (slice_index_or rows (k + 1) d).place (slice_index_or rows k d).place) (h k d l b)

-- a stable sort by trace leaves the items of each trace in their order
equals : (o : Ordering) → is_eq o ≡ true → o ≡ Equal
equals Less h = cc
equals Equal h = refl
equals Greater h = cc

tied : (o : Ordering) → (not (is_lt o) && not (is_lt (ordering_reverse o))) ≡ is_eq (ordering_reverse o)
tied Less = refl
tied Equal = refl
tied Greater = refl

ties_are : {X : Type 0} (key : X → TraceId) (t : TraceId) (x y : X) → is_eq (trace_cmp (key x) t) ≡ true →
    ties (λ a b. is_lt (trace_cmp (key a) (key b))) x y ≡ is_eq (trace_cmp (key y) t)
ties_are key t x y h =
    ap (λ o. not (is_lt (trace_cmp (key x) (key y))) && not (is_lt o)) (trace_cmp_total.antisymm (key y) (key x))
    ∙ tied (trace_cmp (key x) (key y))
    ∙ ap (λ o. is_eq (ordering_reverse o)) (trace_cmp_total.congr (key x) t (key y) (equals (trace_cmp (key x) t) h))
    ∙ ap is_eq (sym (trace_cmp_total.antisymm (key y) t))

neither : (s t : Bool) → s ≡ false → t ≡ false → (s || t) ≡ false
neither true t e n = cc
neither false true e n = cc
neither false false e n = refl

not_first : (s t : Bool) → (s || t) ≡ false → s ≡ false
not_first true true h = cc
not_first true false h = cc
not_first false t h = refl

not_second : (s t : Bool) → (s || t) ≡ false → t ≡ false
not_second true true h = cc
not_second true false h = refl
not_second false true h = cc
not_second false false h = refl

first_of : {X : Type 0} (p : X → Bool) (xs : List X) → ((x : X) × (p x ≡ true)) ⊎ (list_any p xs ≡ false)
first_of p [] = inr refl
first_of {X} p (x ∷ xs) = by_test (p x) refl (first_of p xs)
  where
    by_test : (t : Bool) → p x ≡ t → ((y : X) × (p y ≡ true)) ⊎ (list_any p xs ≡ false) → ((y : X) × (p y ≡ true)) ⊎ (list_any p (x ∷ xs) ≡ false)
    by_test true e more = inl (x, e)
    by_test false e (inl found) = inl found
    by_test false e (inr none) = inr (neither (p x) (list_any p xs) e none)

none_pass : {X : Type 0} (p : X → Bool) (xs : List X) → list_any p xs ≡ false → filter p xs ≡ []
none_pass p [] h = refl
none_pass p (x ∷ xs) h =
    ap (λ t. if t then x ∷ filter p xs else filter p xs) (not_first (p x) (list_any p xs) h) ∙ none_pass p xs (not_second (p x) (list_any p xs) h)

pub groups_kept : {X : Type 0} (key : X → TraceId) (xs ys : List X) (t : TraceId) → IsStableBy (λ a b. is_lt (trace_cmp (key a) (key b))) xs ys → IsPermutation xs ys →
    filter (λ y. is_eq (trace_cmp (key y) t)) ys ≡ filter (λ y. is_eq (trace_cmp (key y) t)) xs
groups_kept {X} key xs ys t stable moved = by_case (first_of (λ y. is_eq (trace_cmp (key y) t)) xs)
  where
    by_case : ((x : X) × (is_eq (trace_cmp (key x) t) ≡ true)) ⊎ (list_any (λ y. is_eq (trace_cmp (key y) t)) xs ≡ false) →
        filter (λ y. is_eq (trace_cmp (key y) t)) ys ≡ filter (λ y. is_eq (trace_cmp (key y) t)) xs
    by_case (inl found) =
        sym (filter_same (ties (λ a b. is_lt (trace_cmp (key a) (key b))) found.0) (λ y. is_eq (trace_cmp (key y) t)) ys (λ y. ties_are key t found.0 y found.1))
        ∙ stable found.0
        ∙ filter_same (ties (λ a b. is_lt (trace_cmp (key a) (key b))) found.0) (λ y. is_eq (trace_cmp (key y) t)) xs (λ y. ties_are key t found.0 y found.1)
    by_case (inr none) =
        none_pass (λ y. is_eq (trace_cmp (key y) t)) ys (sym (list_any-IsPermutation (λ y. is_eq (trace_cmp (key y) t)) xs ys moved) ∙ none)
        ∙ sym (none_pass (λ y. is_eq (trace_cmp (key y) t)) xs none)

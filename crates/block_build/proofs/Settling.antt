-- What stays of neighbours of one span are the first occurrences.
use Rattle.std.proofs.Common.{◌≡◌, ℕ, suc, ◌+◌, Bool, true, false, ◌&&◌, not, List, [], ◌∷◌, map, filter, get_or, Option, Some, None, if◌then◌else◌, refl, sym, ap, subst, ◌∙◌, arith}
use Rattle.std.specs.Cmp.{IsTotalOrder}
use Rattle.std.specs.List.{AllByRecursion, IsDistinct}
use Rattle.std.specs.List.Sorted.{IsPermutation, IsSortedBy, IsStableBy, IsStrictlySortedBy, ties}
use Rattle.std.specs.Ordering.{eq_by_cmp, is_eq, is_lt, ordering_reverse, ordering_then}
use Rattle.std.specs.declared.cmp.Ordering.{Ordering}
use Rattle.std.specs.declared.cmp.Ordering.TheVariants.{Less, Equal, Greater}
use Rattle.std.proofs.lemmas.Cmp.{nat_list_cmp_total, on_total, then_total}
use Rattle.std.proofs.lemmas.Map.Keys.{IsDistinct-from_sorted}
use Rattle.span_types.specs.declared.ids.Key.{Key}
use Rattle.span_types.specs.declared.spans.Row.{Row}
use Rattle.span_types.specs.First.{IsFirstOf, first_at, lesser, row_at}
use Rattle.span_types.specs.Keys.{row_key}
use Rattle.span_types.specs.Orders.{block_order, key_cmp, place_cmp, span_cmp, trace_cmp}
use Rattle.span_types.proofs.FirstLaws.{firsts_alike, key_cmp_exact, lesser-assoc}
use Rattle.block_build.specs.Settling.{earlier, firsts_behind, firsts_by_id, id_order}
use Rattle.block_build.proofs.Distinct.{firsts_distinct}
use Rattle.block_build.proofs.TraceByTrace.{of_other, trace_cmp_total}

pub id_order_total : IsTotalOrder id_order
id_order_total = then_total (on_total (λ r. r.span.id.0) nat_list_cmp_total) (on_total (λ r. r.span.trace.0) nat_list_cmp_total)

-- ---- rows that tie in order of id are of one span

then_swapped : (o p : Ordering) → is_eq (ordering_then o p) ≡ is_eq (ordering_then p o)
then_swapped Less Less = refl
then_swapped Less Equal = refl
then_swapped Less Greater = refl
then_swapped Equal Less = refl
then_swapped Equal Equal = refl
then_swapped Equal Greater = refl
then_swapped Greater Less = refl
then_swapped Greater Equal = refl
then_swapped Greater Greater = refl

is_equal : (o : Ordering) → is_eq o ≡ true → o ≡ Equal
is_equal Less h = cc
is_equal Equal h = refl
is_equal Greater h = cc

as_keys : (a b : Row) → is_eq (key_cmp (row_key a) (row_key b)) ≡ is_eq (id_order a b)
as_keys a b = then_swapped (trace_cmp a.span.trace b.span.trace) (span_cmp a.span.id b.span.id)

of_one_span : (a b : Row) → is_eq (id_order a b) ≡ true → row_key a ≡ row_key b
of_one_span a b same = key_cmp_exact (row_key a) (row_key b) (is_equal (key_cmp (row_key a) (row_key b)) (as_keys a b ∙ same))

earlier_key : (a b : Row) → row_key a ≡ row_key b → row_key (earlier a b) ≡ row_key b
earlier_key a b same =
    elim (is_lt (place_cmp b.place a.place)) as (λ t. row_key (if t then b else a) ≡ row_key b) [
      | true ↦ refl
      | false ↦ same
    ]

-- ---- they have the first rows of all keys

lesser_same : (k : Key) (a b : Row) → row_key a ≡ row_key b → lesser (row_at k a) (row_at k b) ≡ row_at k (earlier a b)
lesser_same k a b same =
    elim (is_eq (key_cmp (row_key b) k)) as (λ t. is_eq (key_cmp (row_key b) k) ≡ t → lesser (row_at k a) (row_at k b) ≡ row_at k (earlier a b)) [
      | true ↦ λ e. there (ap (λ (q : Key). is_eq (key_cmp q k)) same ∙ e) e
      | false ↦ λ e. away (ap (λ (q : Key). is_eq (key_cmp q k)) same ∙ e) e
    ] refl
  where
    row_there : (r : Row) → is_eq (key_cmp (row_key r) k) ≡ true → row_at k r ≡ Some r
    row_there r e = rw e refl

    row_away : (r : Row) → is_eq (key_cmp (row_key r) k) ≡ false → row_at k r ≡ None
    row_away r e = rw e refl

    of_earlier : (t : Bool) → is_eq (key_cmp (row_key a) k) ≡ true → is_eq (key_cmp (row_key b) k) ≡ true → (if t then Some b else Some a) ≡ row_at k (if t then b else a)
    of_earlier true ea eb = sym (row_there b eb)
    of_earlier false ea eb = sym (row_there a ea)

    not_earlier : (t : Bool) → is_eq (key_cmp (row_key a) k) ≡ false → is_eq (key_cmp (row_key b) k) ≡ false → None ≡ row_at k (if t then b else a)
    not_earlier true ea eb = sym (row_away b eb)
    not_earlier false ea eb = sym (row_away a ea)

    there : is_eq (key_cmp (row_key a) k) ≡ true → is_eq (key_cmp (row_key b) k) ≡ true → lesser (row_at k a) (row_at k b) ≡ row_at k (earlier a b)
    there ea eb =
        ap (λ (o : Option Row). lesser o (row_at k b)) (row_there a ea) ∙ ap (lesser (Some a)) (row_there b eb) ∙ of_earlier (is_lt (place_cmp b.place a.place)) ea eb

    away : is_eq (key_cmp (row_key a) k) ≡ false → is_eq (key_cmp (row_key b) k) ≡ false → lesser (row_at k a) (row_at k b) ≡ row_at k (earlier a b)
    away ea eb =
        ap (λ (o : Option Row). lesser o (row_at k b)) (row_away a ea) ∙ row_away b eb ∙ not_earlier (is_lt (place_cmp b.place a.place)) ea eb

behind_first_at : (k : Key) (best : Row) (rows : List Row) → first_at k (firsts_behind best rows) ≡ first_at k (best ∷ rows)
behind_first_at k best [] = refl
behind_first_at k best (next ∷ rows) =
    elim (is_eq (id_order best next)) as (λ t. is_eq (id_order best next) ≡ t → first_at k (if t then firsts_behind (earlier best next) rows else best ∷ firsts_behind next rows) ≡ first_at k (best ∷ next ∷ rows)) [
      | true ↦ λ e.
          behind_first_at k (earlier best next) rows
          ∙ ap (λ (o : Option Row). lesser o (first_at k rows)) (sym (lesser_same k best next (of_one_span best next e)))
          ∙ lesser-assoc (row_at k best) (row_at k next) (first_at k rows)
      | false ↦ λ e. ap (lesser (row_at k best)) (behind_first_at k next rows)
    ] refl

by_id_first_at : (k : Key) (rows : List Row) → first_at k (firsts_by_id rows) ≡ first_at k rows
unfolding firsts_by_id
by_id_first_at k [] = refl
by_id_first_at k (first ∷ rows) = behind_first_at k first rows

-- ---- no two of them are of one span

-- none of the rows is below the one before it
abbrev Follow : Row → List Row → Type 0
Follow x [] = Unit {0}
Follow x (y ∷ ys) = (is_lt (id_order y x) ≡ false) × Follow y ys

-- each is above the one before it
abbrev Ascend : Row → List Row → Type 0
Ascend x [] = Unit {0}
Ascend x (y ∷ ys) = (id_order x y ≡ Less) × Ascend y ys

follow_same : (a b : Row) (rows : List Row) → row_key a ≡ row_key b → Follow b rows → Follow a rows
follow_same a b [] same up = tt
follow_same a b (y ∷ ys) same up = (ap (λ (k : Key). is_lt (ordering_then (span_cmp y.span.id k.span) (trace_cmp y.span.trace k.trace))) same ∙ up.0, up.1)

less_as : (x a b : Row) → row_key a ≡ row_key b → id_order x b ≡ Less → id_order x a ≡ Less
less_as x a b same less = ap (λ (k : Key). ordering_then (span_cmp x.span.id k.span) (trace_cmp x.span.trace k.trace)) same ∙ less

below_other : (o : Ordering) → is_lt (ordering_reverse o) ≡ false → is_eq o ≡ false → o ≡ Less
below_other Less low other = refl
below_other Equal low other = cc
below_other Greater low other = cc

is_below : (a b : Row) → is_lt (id_order b a) ≡ false → is_eq (id_order a b) ≡ false → id_order a b ≡ Less
is_below a b low other = below_other (id_order a b) (sym (ap is_lt (id_order_total.antisymm b a)) ∙ low) other

behind_ascend : (x best : Row) (rows : List Row) → id_order x best ≡ Less → Follow best rows → Ascend x (firsts_behind best rows)
behind_ascend x best [] less up = (less, tt)
behind_ascend x best (next ∷ rows) less up =
    elim (is_eq (id_order best next)) as (λ t. is_eq (id_order best next) ≡ t → Ascend x (if t then firsts_behind (earlier best next) rows else best ∷ firsts_behind next rows)) [
      | true ↦ λ e.
          let same = of_one_span best next e in
          let key = earlier_key best next same in
          behind_ascend x (earlier best next) rows (less_as x (earlier best next) best (key ∙ sym same) less) (follow_same (earlier best next) next rows key up.1)
      | false ↦ λ e. (less, behind_ascend best next rows (is_below best next up.0 e) up.1)
    ] refl

all_above : (x y : Row) (ys : List Row) → id_order x y ≡ Less → Ascend y ys → AllByRecursion (λ (z : Row). id_order x z ≡ Less) ys
all_above x y [] less up = tt
all_above x y (z ∷ zs) less up =
    let next = id_order_total.trans x y z less up.0 in
    (next, all_above x z zs next up.1)

ascend_all : (x : Row) (ys : List Row) → Ascend x ys → AllByRecursion (λ (z : Row). id_order x z ≡ Less) ys
ascend_all x [] up = tt
ascend_all x (y ∷ ys) up = (up.0, all_above x y ys up.0 up.1)

behind_sorted : (best : Row) (rows : List Row) → Follow best rows → IsStrictlySortedBy id_order (firsts_behind best rows)
unfolding IsStrictlySortedBy
behind_sorted best [] up = (tt, tt)
behind_sorted best (next ∷ rows) up =
    elim (is_eq (id_order best next)) as (λ t. is_eq (id_order best next) ≡ t → IsStrictlySortedBy id_order (if t then firsts_behind (earlier best next) rows else best ∷ firsts_behind next rows)) [
      | true ↦ λ e. behind_sorted (earlier best next) rows (follow_same (earlier best next) next rows (earlier_key best next (of_one_span best next e)) up.1)
      | false ↦ λ e. (ascend_all best (firsts_behind next rows) (behind_ascend best next rows (is_below best next up.0 e) up.1), behind_sorted next rows up.1)
    ] refl

rows_differ : (x : Row) (rows : List Row) → AllByRecursion (λ (y : Row). eq_by_cmp id_order x y ≡ false) rows → AllByRecursion (λ (k : Key). eq_by_cmp key_cmp (row_key x) k ≡ false) (map row_key rows)
rows_differ x [] apart = tt
rows_differ x (y ∷ ys) apart = (as_keys x y ∙ apart.0, rows_differ x ys apart.1)

keys_differ : (rows : List Row) → IsDistinct (eq_by_cmp id_order) rows → IsDistinct (eq_by_cmp key_cmp) (map row_key rows)
unfolding IsDistinct
keys_differ [] apart = tt
keys_differ (x ∷ xs) apart = (rows_differ x xs apart.0, keys_differ xs apart.1)

tail_sorted : (x : Row) (xs : List Row) → IsSortedBy (λ a b. is_lt (id_order a b)) (x ∷ xs) → IsSortedBy (λ a b. is_lt (id_order a b)) xs
tail_sorted x xs up = λ k d b low.
    subst (λ (n : ℕ). is_lt (id_order (get_or (x ∷ xs) n d) (get_or xs k d)) ≡ false) (next k) (up (suc k) d (omega arith) (omega (arith, low)))
  where
    next : (k : ℕ) → suc k + 1 ≡ suc (k + 1)
    next k = omega arith

follow : (x : Row) (xs : List Row) → IsSortedBy (λ a b. is_lt (id_order a b)) (x ∷ xs) → Follow x xs
follow x [] up = tt
follow x (y ∷ ys) up = (up 0 x (omega arith) (omega arith), follow y ys (tail_sorted x (y ∷ ys) up))

by_id_distinct : (rows : List Row) → IsSortedBy (λ a b. is_lt (id_order a b)) rows → IsDistinct (eq_by_cmp key_cmp) (map row_key (firsts_by_id rows))
unfolding firsts_by_id IsStrictlySortedBy
by_id_distinct [] up = keys_differ [] (IsDistinct-from_sorted id_order [] tt)
by_id_distinct (first ∷ rows) up = keys_differ (firsts_behind first rows) (IsDistinct-from_sorted id_order (firsts_behind first rows) (behind_sorted first rows (follow first rows up)))

-- ---- a stable sort leaves the first row of each key

among : (p : Row → Bool) (k : Key) (rows : List Row) → ((r : Row) → p r ≡ false → row_at k r ≡ None) → first_at k (filter p rows) ≡ first_at k rows
among p k [] none = refl
among p k (row ∷ rows) none =
    elim (p row) as (λ t. p row ≡ t → first_at k (if t then row ∷ filter p rows else filter p rows) ≡ first_at k (row ∷ rows)) [
      | true ↦ λ e. ap (lesser (row_at k row)) (among p k rows none)
      | false ↦ λ e. among p k rows none ∙ sym (ap (λ (o : Option Row). lesser o (first_at k rows)) (none row e))
    ] refl

tied : (o : Ordering) → (not (is_lt o) && not (is_lt (ordering_reverse o))) ≡ is_eq (ordering_reverse o)
tied Less = refl
tied Equal = refl
tied Greater = refl

tie_is : (order : Row → Row → Ordering) → IsTotalOrder order → (a b : Row) → ties (λ x y. is_lt (order x y)) a b ≡ is_eq (order b a)
tie_is order total a b =
    ap (λ (o : Ordering). not (is_lt (order a b)) && not (is_lt o)) (total.antisymm b a) ∙ tied (order a b) ∙ ap is_eq (sym (total.antisymm b a))

-- a row of this key
like : Key → Row → Row
like k r = record { place = r.place; span = record r.span { trace = k.trace; id = k.span } }

-- rows that don't tie with a row of a key are of other keys
abbrev pub TiesByKey : (Row → Row → Ordering) → Type 0
TiesByKey order = (k : Key) (r d : Row) → row_key d ≡ k → is_eq (order r d) ≡ false → row_at k r ≡ None

kept_by : (order : Row → Row → Ordering) → IsTotalOrder order → TiesByKey order → (xs ys : List Row) → IsStableBy (λ a b. is_lt (order a b)) xs ys → (k : Key) (r : Row) → first_at k ys ≡ first_at k xs
unfolding like
kept_by order total by_key xs ys stable k r =
    let d = like k r in
    let p : Row → Bool = ties (λ x y. is_lt (order x y)) d in
    let none : (r : Row) → p r ≡ false → row_at k r ≡ None = λ r e. by_key k r d refl (sym (tie_is order total d r) ∙ e) in
    sym (among p k ys none) ∙ ap (first_at k) (stable d) ∙ among p k xs none

pub first_kept : (order : Row → Row → Ordering) → IsTotalOrder order → TiesByKey order → (xs ys : List Row) → IsStableBy (λ a b. is_lt (order a b)) xs ys → (k : Key) → first_at k ys ≡ first_at k xs
first_kept order total by_key [] [] stable k = refl
first_kept order total by_key [] (y ∷ ys) stable k = kept_by order total by_key [] (y ∷ ys) stable k y
first_kept order total by_key (x ∷ xs) ys stable k = kept_by order total by_key (x ∷ xs) ys stable k x

-- by trace, and by id

abbrev pub by_trace : Row → Row → Ordering
by_trace a b = trace_cmp a.span.trace b.span.trace

pub by_trace_total : IsTotalOrder by_trace
by_trace_total = on_total (λ r. r.span.trace) trace_cmp_total

pub trace_ties : TiesByKey by_trace
trace_ties k r d same other = of_other k r (ap (λ (q : Key). is_eq (trace_cmp r.span.trace q.trace)) (sym same) ∙ other)

pub id_ties : TiesByKey id_order
id_ties k r d same other =
    let apart : is_eq (key_cmp (row_key r) k) ≡ false = ap (λ (q : Key). is_eq (key_cmp (row_key r) q)) (sym same) ∙ as_keys r d ∙ other in
    rw apart refl

-- ---- the first occurrences of rows

pub settled : (rows sorted out : List Row) → IsStableBy (λ a b. is_lt (id_order a b)) rows sorted → IsSortedBy (λ a b. is_lt (id_order a b)) sorted
    → IsPermutation (firsts_by_id sorted) out → IsSortedBy (λ a b. is_lt (block_order a b)) out → IsFirstOf rows out
settled rows sorted out stable up moved order =
    firsts_alike (firsts_by_id sorted) rows out (λ k. by_id_first_at k sorted ∙ first_kept id_order id_order_total id_ties rows sorted stable k)
    (firsts_distinct (firsts_by_id sorted) out (by_id_distinct sorted up) moved order)

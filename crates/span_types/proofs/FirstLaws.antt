-- Laws of first occurrences.
use Rattle.std.proofs.Common.{◌≡◌, ℕ, List, [], ◌∷◌, ◌++◌, Option, None, Some, Bool, true, false, refl, sym, ◌∙◌, ap, arith, cond, if◌then◌else◌, subst, ◌+◌, ◌<◌, zero, suc, length, map, All, slice_index_or, add-one, ◌⊎◌, inl, inr}
use Rattle.std.specs.List.{IsDistinct, AllAdjacentBelow, AllByRecursion}
use Rattle.std.specs.List.Sorted.{IsSortedBy, IsPermutation}
use Rattle.std.specs.BTreeMap.{BTreeMap, get, values, keys, IsOrdered}
use Rattle.std.specs.Map.{values_of, keys_of}
use Rattle.std.specs.declared.cmp.Ordering.{Ordering}
use Rattle.std.specs.declared.cmp.Ordering.TheVariants.{Less, Equal, Greater}
use Rattle.std.specs.Ordering.{is_lt, is_gt, is_eq, nat_cmp, ordering_then, ordering_reverse, eq_by_cmp}
use Rattle.std.specs.Cmp.{IsTotalOrder}
use Rattle.std.proofs.lemmas.Map.Lookups.{CmpEqualImpliesEq, exact_bytes}
use Rattle.std.proofs.lemmas.Map.Views.{All-found, btree_map_get_iff}
use Rattle.std.proofs.lemmas.Map.Made.{Contains-values_of}
use Rattle.std.proofs.lemmas.Map.Keys.{IsDistinct-from_sorted, IsDistinct-IsPermutation}
use Rattle.std.proofs.lemmas.List.Sorted.{All-permutation, Contains-permutation, IsPermutation-map}
use Rattle.std.proofs.lemmas.Cmp.{then_total, on_total, nat_cmp_total, nat_list_cmp_total, upto, eq_by_cmp_equiv, tied_itself}
use Rattle.span_types.specs.declared.ids.Key.{Key}
use Rattle.span_types.specs.declared.ids.Place.{Place}
use Rattle.span_types.specs.declared.spans.Row.{Row}
use Rattle.span_types.specs.Keys.{row_key}
use Rattle.span_types.specs.Orders.{trace_cmp, span_cmp, key_cmp, place_cmp, trace_order, block_order}
use Rattle.span_types.specs.First.{comes_before, lesser, row_at, first_at, IsFirstOf}

-- Places, keys and rows are totally ordered.
pub place_cmp_total : IsTotalOrder place_cmp
place_cmp_total = then_total (on_total (λ p. p.number) nat_cmp_total) (on_total (λ p. p.position) nat_cmp_total)

pub key_cmp_total : IsTotalOrder key_cmp
key_cmp_total = then_total (on_total (λ k. k.trace.0) nat_list_cmp_total) (on_total (λ k. k.span.0) nat_list_cmp_total)

pub block_order_total : IsTotalOrder block_order
block_order_total =
    then_total (on_total (λ r. r.span.trace.0) nat_list_cmp_total)
    (then_total (on_total (λ r. r.span.start) nat_cmp_total) (on_total (λ r. r.span.id.0) nat_list_cmp_total))

-- A test for less is one for greater, the other way round.
lt_is_gt_reversed : (o : Ordering) → is_lt (ordering_reverse o) ≡ is_gt o
lt_is_gt_reversed Less = refl
lt_is_gt_reversed Equal = refl
lt_is_gt_reversed Greater = refl

is_less : (o : Ordering) → is_lt o ≡ true → o ≡ Less
is_less Less h = refl
is_less Equal h = cc
is_less Greater h = cc

before_flips : (a b : Place) → is_lt (place_cmp b a) ≡ is_gt (place_cmp a b)
before_flips a b = ap is_lt (place_cmp_total.antisymm b a) ∙ lt_is_gt_reversed (place_cmp a b)

-- `lesser` is a choice by the least: joined choices need no parentheses.
pub lesser-none : (a : Option Row) → lesser a None ≡ a
lesser-none None = refl
lesser-none (Some a) = refl

-- If the first of two places isn't above the second, and that not above the third, the third isn't below the first.
not_before_trans : (a b c : Place) → is_lt (place_cmp b a) ≡ false → is_lt (place_cmp c b) ≡ false → is_lt (place_cmp c a) ≡ false
not_before_trans a b c hb hc =
    before_flips a c ∙ upto place_cmp_total a b c (sym (before_flips a b) ∙ hb) (sym (before_flips b c) ∙ hc)

before_trans : (a b c : Place) → is_lt (place_cmp b a) ≡ true → is_lt (place_cmp c b) ≡ true → is_lt (place_cmp c a) ≡ true
before_trans a b c hb hc = ap is_lt (place_cmp_total.trans c b a (is_less _ hc) (is_less _ hb))

lesser-assoc-some : (a b c : Row) → lesser (lesser (Some a) (Some b)) (Some c) ≡ lesser (Some a) (lesser (Some b) (Some c))
lesser-assoc-some a b c =
    elim (is_lt (place_cmp b.place a.place)) as (λ t. is_lt (place_cmp b.place a.place) ≡ t → lesser (if t then Some b else Some a) (Some c) ≡ lesser (Some a) (lesser (Some b) (Some c))) [
      | true ↦ λ hb. elim (is_lt (place_cmp c.place b.place)) as (λ t. is_lt (place_cmp c.place b.place) ≡ t → (if t then Some c else Some b) ≡ lesser (Some a) (if t then Some c else Some b)) [
        | true ↦ λ hc. rw (before_trans _ _ _ hb hc) refl
        | false ↦ λ hc. rw hb refl
      ] refl
      | false ↦ λ hb. elim (is_lt (place_cmp c.place b.place)) as (λ t. is_lt (place_cmp c.place b.place) ≡ t → lesser (Some a) (Some c) ≡ lesser (Some a) (if t then Some c else Some b)) [
        | true ↦ λ hc. refl
        | false ↦ λ hc. rw (hb, not_before_trans _ _ _ hb hc) refl
      ] refl
    ] refl

pub lesser-assoc : (a b c : Option Row) → lesser (lesser a b) c ≡ lesser a (lesser b c)
lesser-assoc None b c = refl
lesser-assoc (Some a) None c = refl
lesser-assoc (Some a) (Some b) None = lesser-none (lesser (Some a) (Some b))
lesser-assoc (Some a) (Some b) (Some c) = lesser-assoc-some a b c

-- The first row of a joined list is the lesser of the first rows of its parts.
pub first_at-append : (k : Key) (xs ys : List Row) → first_at k (xs ++ ys) ≡ lesser (first_at k xs) (first_at k ys)
first_at-append k [] ys = refl
first_at-append k (x ∷ xs) ys =
    ap (lesser (row_at k x)) (first_at-append k xs ys) ∙ sym (lesser-assoc (row_at k x) (first_at k xs) (first_at k ys))

pub first_at-push : (k : Key) (xs : List Row) (r : Row) → first_at k (xs ++ r ∷ []) ≡ lesser (first_at k xs) (row_at k r)
first_at-push k xs r = first_at-append k xs (r ∷ []) ∙ ap (lesser (first_at k xs)) (lesser-none (row_at k r))

then_equal : (o p : Ordering) → ordering_then o p ≡ Equal → (o ≡ Equal) × (p ≡ Equal)
then_equal Less p e = cc
then_equal Equal p e = (refl, e)
then_equal Greater p e = cc

-- Keys that compare as equal are equal.
pub key_cmp_exact : CmpEqualImpliesEq key_cmp
key_cmp_exact a b h =
    let parts = then_equal (trace_cmp a.trace b.trace) (span_cmp a.span b.span) h in
    keys_equal a b (exact_bytes a.trace.0 b.trace.0 parts.0) (exact_bytes a.span.0 b.span.0 parts.1)
  where
    keys_equal : (a b : Key) → a.trace.0 ≡ b.trace.0 → a.span.0 ≡ b.span.0 → a ≡ b
    keys_equal a b ht hs =
        ap (λ t. record { trace = record { 0 = t }; span = a.span }) ht ∙ ap (λ s. record { trace = b.trace; span = record { 0 = s } }) hs

is_equal : (o : Ordering) → is_eq o ≡ true → o ≡ Equal
is_equal Less h = cc
is_equal Equal h = refl
is_equal Greater h = cc

won : (o : Option Row) (r : Row) → comes_before r.place o ≡ true → Some r ≡ lesser o (Some r)
won None r h = refl
won (Some x) r h = rw h refl

lost : (o : Option Row) (r : Row) → comes_before r.place o ≡ false → o ≡ lesser o (Some r)
lost None r h = cc
lost (Some x) r h = rw h refl

-- What a map has at each key after a row was kept for its own key, and after it was let go.
pub kept : (old : Key → Option Row) (r : Row) (own k : Key) → own ≡ row_key r → comes_before r.place (old own) ≡ true →
    cond (is_eq (key_cmp own k)) (Some r) (old k) ≡ lesser (old k) (row_at k r)
kept old r own k is h =
    rw is (elim (is_eq (key_cmp (row_key r) k)) as (λ t. is_eq (key_cmp (row_key r) k) ≡ t → cond t (Some r) (old k) ≡ lesser (old k) (if t then Some r else None)) [
      | true ↦ λ e. won (old k) r (subst (λ q. comes_before r.place (old q) ≡ true) (is ∙ key_cmp_exact _ _ (is_equal _ e)) h)
      | false ↦ λ e. sym (lesser-none (old k))
    ] refl)

pub let_go : (old : Key → Option Row) (r : Row) (own k : Key) → own ≡ row_key r → comes_before r.place (old own) ≡ false →
    old k ≡ lesser (old k) (row_at k r)
let_go old r own k is h =
    elim (is_eq (key_cmp (row_key r) k)) as (λ t. is_eq (key_cmp (row_key r) k) ≡ t → old k ≡ lesser (old k) (if t then Some r else None)) [
      | true ↦ λ e. lost (old k) r (subst (λ q. comes_before r.place (old q) ≡ false) (is ∙ key_cmp_exact _ _ (is_equal _ e)) h)
      | false ↦ λ e. sym (lesser-none (old k))
    ] refl

key_of_row_at : (k : Key) (x r : Row) → row_at k x ≡ Some r → row_key r ≡ k
key_of_row_at k x r h =
    elim (is_eq (key_cmp (row_key x) k)) as (λ t. is_eq (key_cmp (row_key x) k) ≡ t → (if t then Some x else None) ≡ Some r → row_key r ≡ k) [
      | true ↦ λ e is. let same : x ≡ r = cc in subst (λ y. row_key y ≡ k) same (key_cmp_exact _ _ (is_equal _ e))
      | false ↦ λ e is. cc
    ] refl h

key_of_lesser : (k : Key) (a b : Option Row) → ((r : Row) → a ≡ Some r → row_key r ≡ k) → ((r : Row) → b ≡ Some r → row_key r ≡ k) →
    (r : Row) → lesser a b ≡ Some r → row_key r ≡ k
key_of_lesser k None b ha hb r h = hb r h
key_of_lesser k (Some a) None ha hb r h = ha r h
key_of_lesser k (Some a) (Some b) ha hb r h =
    elim (is_lt (place_cmp b.place a.place)) as (λ t. (if t then Some b else Some a) ≡ Some r → row_key r ≡ k) [
      | true ↦ λ is. hb r is
      | false ↦ λ is. ha r is
    ] h

-- The first row of a key has the key.
pub key_of_first : (k : Key) (rows : List Row) (r : Row) → first_at k rows ≡ Some r → row_key r ≡ k
key_of_first k [] r h = cc
key_of_first k (x ∷ xs) r h = key_of_lesser k (row_at k x) (first_at k xs) (key_of_row_at k x) (key_of_first k xs) r h

less_or : (o : Ordering) → is_gt o ≡ false → (o ≡ Equal → ⊥) → o ≡ Less
less_or Less h e = refl
less_or Equal h e = absurd (e refl)
less_or Greater h e = cc

true_is_not_false : true ≡ false → ⊥
true_is_not_false h = cc

equal_keys : (a b : Row) → block_order a b ≡ Equal → key_cmp (row_key a) (row_key b) ≡ Equal
equal_keys a b h =
    let outer = then_equal (trace_cmp a.span.trace b.span.trace) (trace_order a b) h in
    let inner = then_equal (nat_cmp a.span.start b.span.start) (span_cmp a.span.id b.span.id) outer.1 in
    ap (λ o. ordering_then o (span_cmp a.span.id b.span.id)) outer.0 ∙ inner.1

-- Rows of different keys that block order doesn't put the other way round ascend strictly.
strictly : (a b : Row) → is_lt (block_order b a) ≡ false → eq_by_cmp key_cmp (row_key a) (row_key b) ≡ false → block_order a b ≡ Less
strictly a b not_below apart =
    less_or (block_order a b) (sym (lt_is_gt_reversed (block_order a b)) ∙ ap is_lt (sym (block_order_total.antisymm b a)) ∙ not_below)
    (λ tied. true_is_not_false (sym (ap is_eq (equal_keys a b tied)) ∙ apart))

-- Neighbours of a list whose keys are distinct have different keys.
neighbours_differ : (xs : List Row) (k : ℕ) (d : Row) → suc k < length xs → IsDistinct (eq_by_cmp key_cmp) (map row_key xs) →
    eq_by_cmp key_cmp (row_key (slice_index_or xs k d)) (row_key (slice_index_or xs (suc k) d)) ≡ false
unfolding IsDistinct
neighbours_differ [] k d h apart = absurd (omega arith)
neighbours_differ (x ∷ []) k d h apart = absurd (omega arith)
neighbours_differ (x ∷ y ∷ ys) zero d h apart = apart.0.0
neighbours_differ (x ∷ y ∷ ys) (suc k) d h apart = neighbours_differ (y ∷ ys) k d (omega arith) apart.1

-- Distinct rows in the order of a sort ascend strictly.
pub strictly_ordered : (xs : List Row) → IsSortedBy (λ a b. is_lt (block_order a b)) xs → IsDistinct (eq_by_cmp key_cmp) (map row_key xs) →
    AllAdjacentBelow (λ a b. block_order a b ≡ Less) xs (length xs)
strictly_ordered xs up apart = λ k d h. strictly (slice_index_or xs k d) (slice_index_or xs (k + 1) d) (up k d (omega arith) h) (rw (add-one k) (neighbours_differ xs k d (omega arith) apart))

-- The keys of entries are those of their rows, where each entry's row has its key.
keys_are : (es : List (Key × Row)) → AllByRecursion (λ e. row_key e.1 ≡ e.0) es → map row_key (values_of es) ≡ keys_of es
keys_are [] h = refl
keys_are (e ∷ es) h = ap (λ k. k ∷ map row_key (values_of es)) h.0 ∙ ap (λ ks. e.0 ∷ ks) (keys_are es h.1)

by_recursion : {X : Type 0} (P : X → Type 0) (xs : List X) → All P xs → AllByRecursion P xs
by_recursion P [] h = tt
by_recursion P (x ∷ xs) h = (h zero x (omega arith), by_recursion P xs (λ k d l. h (suc k) d (omega arith)))

values_all : (P : Row → Type 0) (es : List (Key × Row)) → AllByRecursion (λ e. P e.1) es → AllByRecursion P (values_of es)
values_all P [] h = tt
values_all P (e ∷ es) h = (h.0, values_all P es h.1)

from_recursion : {X : Type 0} (P : X → Type 0) (xs : List X) (k : ℕ) (d : X) → AllByRecursion P xs → k < length xs → P (slice_index_or xs k d)
from_recursion P [] k d h l = absurd (omega arith)
from_recursion P (x ∷ xs) zero d h l = h.0
from_recursion P (x ∷ xs) (suc k) d h l = from_recursion P xs k d h.1 (omega arith)

-- A map that has the first row of each key gives the first occurrences, once its values are in block order.
pub firsts_from_map : (rows : List Row) (m : BTreeMap Key Row) (out : List Row) → ((k : Key) → get key_cmp m k ≡ first_at k rows) →
    IsOrdered key_cmp m → IsPermutation (values m) out → IsSortedBy (λ a b. is_lt (block_order a b)) out → IsFirstOf rows out
firsts_from_map rows m out gets ordered moved up =
    let found : All (λ e. first_at e.0 rows ≡ Some e.1) m.entries = λ k d h. sym (gets _) ∙ All-found key_cmp_total m ordered k d h in
    let own : AllByRecursion (λ e. row_key e.1 ≡ e.0) m.entries =
    by_recursion (λ e. row_key e.1 ≡ e.0) m.entries (λ k d h. key_of_first _ rows _ (found k d h)) in
    let firsts : All (λ r. first_at (row_key r) rows ≡ Some r) (values m) =
    λ j d l. from_recursion (λ r. first_at (row_key r) rows ≡ Some r) (values m) j d (values_all (λ r. first_at (row_key r) rows ≡ Some r) m.entries (by_recursion (λ e. first_at (row_key e.1) rows ≡ Some e.1) m.entries
    (λ k d h. subst (λ q. first_at q rows ≡ Some (slice_index_or m.entries k d).1) (sym (key_of_first _ rows _ (found k d h))) (found k d h)))) l in
    let distinct : IsDistinct (eq_by_cmp key_cmp) (map row_key (values m)) =
    subst (IsDistinct (eq_by_cmp key_cmp)) (sym (keys_are m.entries own)) (IsDistinct-from_sorted key_cmp (keys m) ordered) in
    record {
      only = All-permutation (λ r. first_at (row_key r) rows ≡ Some r) (values m) out moved firsts;
      whole = λ k r h. Contains-permutation (values m) out r moved
          (Contains-values_of m.entries k r ((btree_map_get_iff key_cmp_total key_cmp_exact m ordered k r).0 (gets k ∙ h)));
      ordered = strictly_ordered out up
          (IsDistinct-IsPermutation (eq_by_cmp key_cmp) keys_flip _ _ (IsPermutation-map row_key (values m) out moved) distinct);
    }
  where
    keys_flip : (a b : Key) → eq_by_cmp key_cmp a b ≡ eq_by_cmp key_cmp b a
    keys_flip a b = (eq_by_cmp_equiv key_cmp_total).symm a b

same_either : (t : Bool) (r : Row) → (if t then Some r else Some r) ≡ Some r
same_either true r = refl
same_either false r = refl

with_same : (r : Row) (o : Option Row) → (o ≡ None) ⊎ (o ≡ Some r) → lesser (Some r) o ≡ Some r
with_same r o (inl h) = rw h refl
with_same r o (inr h) = rw h (same_either (is_lt (place_cmp r.place r.place)) r)

-- A list whose rows of a key are all the row r has r as the first row of the key.
only_row : (k : Key) (r : Row) (xs : List Row) → AllByRecursion (λ x. row_key x ≡ k → x ≡ r) xs → (first_at k xs ≡ None) ⊎ (first_at k xs ≡ Some r)
only_row k r [] h = inl refl
only_row k r (x ∷ xs) h =
    elim (is_eq (key_cmp (row_key x) k)) as (λ t. is_eq (key_cmp (row_key x) k) ≡ t → (lesser (if t then Some x else None) (first_at k xs) ≡ None) ⊎ (lesser (if t then Some x else None) (first_at k xs) ≡ Some r)) [
      | true ↦ λ e. inr (rw (h.0 (key_cmp_exact _ _ (is_equal _ e))) (with_same r (first_at k xs) (only_row k r xs h.1)))
      | false ↦ λ e. only_row k r xs h.1
    ] refl

chosen_none : (t : Bool) (a b : Row) → (if t then Some b else Some a) ≡ None → ⊥
chosen_none true a b h = cc
chosen_none false a b h = cc

none_parts : (a b : Option Row) → lesser a b ≡ None → (a ≡ None) × (b ≡ None)
none_parts None b h = (refl, h)
none_parts (Some a) None h = cc
none_parts (Some a) (Some b) h = absurd (chosen_none (is_lt (place_cmp b.place a.place)) a b h)

own_row : (r : Row) → row_at (row_key r) r ≡ Some r
own_row r = rw (tied_itself key_cmp_total (row_key r)) refl

-- A key of the list has a first row.
pub has_first : (xs : List Row) (i : ℕ) (d : Row) → i < length xs → first_at (row_key (slice_index_or xs i d)) xs ≡ None → ⊥
has_first [] i d l h = omega arith
has_first (x ∷ xs) zero d l h =
    let none : row_at (row_key x) x ≡ None = (none_parts (row_at (row_key x) x) (first_at (row_key x) xs) h).0 in
    let same : Some x ≡ None = sym (own_row x) ∙ none in
    cc
has_first (x ∷ xs) (suc i) d l h =
    has_first xs i d (omega arith) (none_parts (row_at (row_key (slice_index_or xs i d)) x) (first_at (row_key (slice_index_or xs i d)) xs) h).1

absent : (k : Key) (xs : List Row) → AllByRecursion (λ x. row_key x ≡ k → ⊥) xs → first_at k xs ≡ None
absent k [] h = refl
absent k (x ∷ xs) h =
    elim (is_eq (key_cmp (row_key x) k)) as (λ t. is_eq (key_cmp (row_key x) k) ≡ t → lesser (if t then Some x else None) (first_at k xs) ≡ None) [
      | true ↦ λ e. absurd (h.0 (key_cmp_exact _ _ (is_equal _ e)))
      | false ↦ λ e. absent k xs h.1
    ] refl

some_same : (a b : Row) → Some a ≡ Some b → a ≡ b
some_same a b h = cc

some_is_some : (a : Row) → Some a ≡ None → ⊥
some_is_some a h = cc

first_at-firsts_by : (rows firsts : List Row) → IsFirstOf rows firsts → (k : Key) (o : Option Row) → first_at k rows ≡ o → first_at k firsts ≡ o
first_at-firsts_by rows firsts is k None h =
    absent k firsts (by_recursion (λ x. row_key x ≡ k → ⊥) firsts
    (λ i d l e. some_is_some _ (sym (is.only i d l) ∙ ap (λ q. first_at q rows) e ∙ h)))
first_at-firsts_by rows firsts is k (Some r) h =
    let own : row_key r ≡ k = key_of_first k rows r h in
    let there = is.whole k r h in
    elim (only_row k r firsts (by_recursion (λ x. row_key x ≡ k → x ≡ r) firsts
    (λ i d l e. some_same _ _ (sym (is.only i d l) ∙ ap (λ q. first_at q rows) e ∙ h)))) as (λ _. first_at k firsts ≡ Some r) [
      | inl none ↦ absurd (has_first firsts there.0 r there.1 (ap (λ x. first_at (row_key x) firsts) there.2 ∙ ap (λ q. first_at q firsts) own ∙ none))
      | inr some ↦ some
    ]

-- The first occurrences have the first rows of what they are of.
pub first_at-firsts : (rows firsts : List Row) → IsFirstOf rows firsts → (k : Key) → first_at k firsts ≡ first_at k rows
first_at-firsts rows firsts is k = first_at-firsts_by rows firsts is k (first_at k rows) refl

-- Lists with the same first rows have the same first occurrences.
pub firsts_alike : (a b firsts : List Row) → ((k : Key) → first_at k a ≡ first_at k b) → IsFirstOf a firsts → IsFirstOf b firsts
firsts_alike a b firsts same is = record {
  only = λ k d h. sym (same _) ∙ is.only k d h;
  whole = λ k r h. is.whole k r (same k ∙ h);
  ordered = is.ordered;
}

-- First occurrences joined with more rows have the first occurrences of the whole.
pub firsts_more : (base firsts more all : List Row) → IsFirstOf base firsts → IsFirstOf (firsts ++ more) all → IsFirstOf (base ++ more) all
firsts_more base firsts more all is of_all = firsts_alike (firsts ++ more) (base ++ more) all
    (λ k. first_at-append k firsts more ∙ ap (λ o. lesser o (first_at k more)) (first_at-firsts base firsts is k) ∙ sym (first_at-append k base more)) of_all

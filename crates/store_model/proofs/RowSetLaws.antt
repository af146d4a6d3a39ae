-- Laws of first rows, where a place names one row.
use Rattle.std.proofs.lemmas.Map.Lookups.{exact_unsigned}
use Rattle.std.proofs.lemmas.Cmp.{upto}
use Rattle.std.specs.Ordering.{is_gt, ordering_reverse}
use Rattle.span_types.proofs.FirstLaws.{has_first}
use Rattle.std.proofs.Common.{◌⊎◌, inl, inr, ◌≡◌, ℕ, ◌<◌, zero, suc, List, [], ◌∷◌, Option, None, Some, true, false, refl, sym, ◌∙◌, ap, subst, arith, length, if◌then◌else◌, slice_index_or}
use Rattle.std.specs.List.{Contains}
use Rattle.std.specs.declared.cmp.Ordering.{Ordering}
use Rattle.std.specs.declared.cmp.Ordering.TheVariants.{Less, Equal, Greater}
use Rattle.std.specs.Ordering.{is_lt, is_eq, nat_cmp, ordering_then}
use Rattle.std.proofs.lemmas.Cmp.{tied_itself}
use Rattle.span_types.specs.declared.ids.Key.{Key}
use Rattle.span_types.specs.declared.ids.Place.{Place}
use Rattle.span_types.specs.declared.spans.Row.{Row}
use Rattle.span_types.specs.Keys.{row_key}
use Rattle.span_types.specs.Orders.{key_cmp, place_cmp}
use Rattle.span_types.specs.First.{lesser, row_at, first_at}
use Rattle.span_types.proofs.FirstLaws.{key_cmp_total, place_cmp_total, key_of_first}
use Rattle.store_model.specs.RowSets.{OnePlace, SameRows}

-- ---- what is in a list

pub in_head : (x : Row) (xs : List Row) → Contains (x ∷ xs) x
in_head x xs = (zero, omega arith, refl)

pub in_tail : (x y : Row) (xs : List Row) → Contains xs x → Contains (y ∷ xs) x
in_tail x y xs h = (suc h.0, omega (arith, h.1), h.2)

-- ---- the first row is in the list, and no row of its key comes before it

true_is_not_false : true ≡ false → ⊥
true_is_not_false h = cc

row_at_is : (k : Key) (x r : Row) → row_at k x ≡ Some r → x ≡ r
row_at_is k x r h =
    elim (is_eq (key_cmp (row_key x) k)) as (λ t. (if t then Some x else None) ≡ Some r → x ≡ r) [
      | true ↦ λ e. cc
      | false ↦ λ e. cc
    ] h

lesser_is : (a b : Option Row) (r : Row) → lesser a b ≡ Some r → (a ≡ Some r) ⊎ (b ≡ Some r)
lesser_is None b r h = inr h
lesser_is (Some a) None r h = inl h
lesser_is (Some a) (Some b) r h =
    elim (is_lt (place_cmp b.place a.place)) as (λ t. (if t then Some b else Some a) ≡ Some r → (Some a ≡ Some r) ⊎ (Some b ≡ Some r)) [
      | true ↦ λ e. inr e
      | false ↦ λ e. inl e
    ] h

pub first_is_in : (k : Key) (xs : List Row) (r : Row) → first_at k xs ≡ Some r → Contains xs r
first_is_in k [] r h = cc
first_is_in k (x ∷ xs) r h =
    elim (lesser_is (row_at k x) (first_at k xs) r h) as (λ _. Contains (x ∷ xs) r) [
      | inl e ↦ subst (λ y. Contains (x ∷ xs) y) (row_at_is k x r e) (in_head x xs)
      | inr e ↦ in_tail r x xs (first_is_in k xs r e)
    ]

lt_is_gt_reversed : (o : Ordering) → is_lt (ordering_reverse o) ≡ is_gt o
lt_is_gt_reversed Less = refl
lt_is_gt_reversed Equal = refl
lt_is_gt_reversed Greater = refl

before_flips : (a b : Place) → is_lt (place_cmp b a) ≡ is_gt (place_cmp a b)
before_flips a b = ap is_lt (place_cmp_total.antisymm b a) ∙ lt_is_gt_reversed (place_cmp a b)

not_before_trans : (a b c : Place) → is_lt (place_cmp b a) ≡ false → is_lt (place_cmp c b) ≡ false → is_lt (place_cmp c a) ≡ false
not_before_trans a b c hb hc =
    before_flips a c ∙ upto place_cmp_total a b c (sym (before_flips a b) ∙ hb) (sym (before_flips b c) ∙ hc)

not_before_itself : (a : Place) → is_lt (place_cmp a a) ≡ false
not_before_itself a = ap is_lt (tied_itself place_cmp_total a)

lt_not_gt : (o : Ordering) → is_lt o ≡ true → is_gt o ≡ false
lt_not_gt Less h = refl
lt_not_gt Equal h = cc
lt_not_gt Greater h = cc

-- a row that the lesser of two isn't after isn't after the first of them
least_left : (a b r : Row) → lesser (Some a) (Some b) ≡ Some r → is_lt (place_cmp a.place r.place) ≡ false
least_left a b r h =
    elim (is_lt (place_cmp b.place a.place)) as (λ t. is_lt (place_cmp b.place a.place) ≡ t → (if t then Some b else Some a) ≡ Some r → is_lt (place_cmp a.place r.place) ≡ false) [
      | true ↦ λ e s. let same : b ≡ r = cc in subst (λ y. is_lt (place_cmp a.place y.place) ≡ false) same (before_flips b.place a.place ∙ lt_not_gt _ e)
      | false ↦ λ e s. let same : a ≡ r = cc in subst (λ y. is_lt (place_cmp a.place y.place) ≡ false) same (not_before_itself a.place)
    ] refl h

least_right : (a b r : Row) → lesser (Some a) (Some b) ≡ Some r → is_lt (place_cmp b.place r.place) ≡ false
least_right a b r h =
    elim (is_lt (place_cmp b.place a.place)) as (λ t. is_lt (place_cmp b.place a.place) ≡ t → (if t then Some b else Some a) ≡ Some r → is_lt (place_cmp b.place r.place) ≡ false) [
      | true ↦ λ e s. let same : b ≡ r = cc in subst (λ y. is_lt (place_cmp b.place y.place) ≡ false) same (not_before_itself b.place)
      | false ↦ λ e s. let same : a ≡ r = cc in subst (λ y. is_lt (place_cmp b.place y.place) ≡ false) same e
    ] refl h

own_row : (r : Row) → row_at (row_key r) r ≡ Some r
own_row r = rw (tied_itself key_cmp_total (row_key r)) refl

head_least : (x r : Row) (o : Option Row) → lesser (Some x) o ≡ Some r → is_lt (place_cmp x.place r.place) ≡ false
head_least x r None h = let same : x ≡ r = cc in subst (λ y. is_lt (place_cmp x.place y.place) ≡ false) same (not_before_itself x.place)
head_least x r (Some b) h = least_left x b r h

tail_least : (x r b : Row) (a : Option Row) → lesser a (Some b) ≡ Some r → is_lt (place_cmp x.place b.place) ≡ false → is_lt (place_cmp x.place r.place) ≡ false
tail_least x r b None h n = let same : b ≡ r = cc in subst (λ y. is_lt (place_cmp x.place y.place) ≡ false) same n
tail_least x r b (Some a) h n = not_before_trans r.place b.place x.place (least_right a b r h) n

-- No row of the key comes before the first one.
pub first_is_least : (xs : List Row) (r : Row) (i : ℕ) (d : Row) → i < length xs →
    first_at (row_key (slice_index_or xs i d)) xs ≡ Some r → is_lt (place_cmp (slice_index_or xs i d).place r.place) ≡ false
first_is_least [] r i d l h = absurd (omega arith)
first_is_least (x ∷ xs) r zero d l h = head_least x r (first_at (row_key x) xs) (ap (λ o. lesser o (first_at (row_key x) xs)) (sym (own_row x)) ∙ h)
first_is_least (x ∷ xs) r (suc i) d l h = in_rest (first_at (row_key (slice_index_or xs i d)) xs) refl (λ b e. first_is_least xs b i d (omega (arith, l)) e)
  where
    in_rest : (o : Option Row) → first_at (row_key (slice_index_or xs i d)) xs ≡ o →
        ((b : Row) → first_at (row_key (slice_index_or xs i d)) xs ≡ Some b → is_lt (place_cmp (slice_index_or xs i d).place b.place) ≡ false) →
        is_lt (place_cmp (slice_index_or xs i d).place r.place) ≡ false
    in_rest None e ih = absurd (has_first xs i d (omega (arith, l)) e)
    in_rest (Some b) e ih = tail_least (slice_index_or xs i d) r b (row_at (row_key (slice_index_or xs i d)) x)
        (ap (lesser (row_at (row_key (slice_index_or xs i d)) x)) (sym e) ∙ h) (ih b e)

pub least_in : (k : Key) (xs : List Row) (x r : Row) → Contains xs x → row_key x ≡ k → first_at k xs ≡ Some r → is_lt (place_cmp x.place r.place) ≡ false
least_in k xs x r there own h =
    subst (λ y. is_lt (place_cmp y.place r.place) ≡ false) there.2
    (first_is_least xs r there.0 x there.1 (ap (λ q. first_at q xs) (ap row_key there.2 ∙ own) ∙ h))

some_in : (k : Key) (xs : List Row) (x : Row) → Contains xs x → row_key x ≡ k → first_at k xs ≡ None → ⊥
some_in k xs x there own h = has_first xs there.0 x there.1 (ap (λ q. first_at q xs) (ap row_key there.2 ∙ own) ∙ h)

-- ---- places

then_equal : (o p : Ordering) → ordering_then o p ≡ Equal → (o ≡ Equal) × (p ≡ Equal)
then_equal Less p e = cc
then_equal Equal p e = (refl, e)
then_equal Greater p e = cc

places_equal : (a b : Place) → a.number ≡ b.number → a.position ≡ b.position → a ≡ b
places_equal a b hn hp = ap (λ n. record { number = n; position = a.position }) hn ∙ ap (λ p. record { number = b.number; position = p }) hp

neither : (o : Ordering) → is_lt o ≡ false → is_gt o ≡ false → o ≡ Equal
neither Less h g = cc
neither Equal h g = refl
neither Greater h g = cc

one_place : (a b : Place) → is_lt (place_cmp a b) ≡ false → is_lt (place_cmp b a) ≡ false → a ≡ b
one_place a b h g =
    let parts = then_equal (nat_cmp a.number b.number) (nat_cmp a.position b.position) (neither (place_cmp a b) h (sym (before_flips a b) ∙ g)) in
    places_equal a b (exact_unsigned a.number b.number parts.0) (exact_unsigned a.position b.position parts.1)

-- Where a place names one row, the order of rows makes no first row another one.
pub any_order : (xs ys : List Row) → OnePlace xs → SameRows xs ys → (k : Key) → first_at k xs ≡ first_at k ys
any_order xs ys one same k = by_cases (first_at k xs) (first_at k ys) refl refl
  where
    by_cases : (o p : Option Row) → first_at k xs ≡ o → first_at k ys ≡ p → first_at k xs ≡ first_at k ys
    by_cases None None ho hp = ho ∙ sym hp
    by_cases (Some a) None ho hp = absurd (some_in k ys a (same.0 a (first_is_in k xs a ho)) (key_of_first k xs a ho) hp)
    by_cases None (Some b) ho hp = absurd (some_in k xs b (same.1 b (first_is_in k ys b hp)) (key_of_first k ys b hp) ho)
    by_cases (Some a) (Some b) ho hp =
        let in_xs = first_is_in k xs a ho in
        let in_ys = first_is_in k ys b hp in
        let a_not : is_lt (place_cmp a.place b.place) ≡ false = least_in k ys a b (same.0 a in_xs) (key_of_first k xs a ho) hp in
        let b_not : is_lt (place_cmp b.place a.place) ≡ false = least_in k xs b a (same.1 b in_ys) (key_of_first k ys b hp) ho in
        ho ∙ ap Some (one a b in_xs (same.1 b in_ys) (one_place a.place b.place a_not b_not)) ∙ sym hp

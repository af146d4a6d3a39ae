-- First occurrences can be the rows of a block: there are some and no more than the rows, and they ascend.
use Rattle.std.proofs.Common.{◌≡◌, ◌⊎◌, inl, inr, ◌<◌, ◌≤◌, Bool, true, false, ◌||◌, List, [], ◌∷◌, length, Option, Some, None, slice_index_or, if◌then◌else◌, refl, ap, ◌∙◌, sym, arith}
use Rattle.std.specs.List.{AllByRecursion, list_any}
use Rattle.std.specs.List.Sorted.{IsStrictlySortedBy}
use Rattle.std.specs.Ordering.{is_lt, is_eq, eq_by_cmp}
use Rattle.std.specs.Cmp.{IsEquivalence}
use Rattle.std.proofs.lemmas.Bool.{and_from}
use Rattle.std.proofs.lemmas.Cmp.{eq_by_cmp_equiv}
use Rattle.std.proofs.lemmas.List.Elements.{recursion_from_All}
use Rattle.std.proofs.lemmas.Map.Keys.{IsDistinct-from_sorted, sorted_from_all_adjacent}
use Rattle.std.proofs.lemmas.Map.Made.{length-le_from_is_member}
use Rattle.span_types.specs.declared.ids.Key.{Key}
use Rattle.span_types.specs.declared.spans.Row.{Row}
use Rattle.span_types.specs.First.{IsFirstOf, first_at, lesser, row_at}
use Rattle.span_types.specs.Keys.{row_key}
use Rattle.span_types.specs.Orders.{block_order, key_cmp, place_cmp}
use Rattle.span_types.proofs.FirstLaws.{block_order_total, has_first}
use Rattle.block_stripes.specs.StripeReadings.{ascend, ascend_after}

-- ---- no more than the rows

abbrev alike : Row → Row → Bool
alike = eq_by_cmp block_order

alike_equiv : IsEquivalence alike
alike_equiv = eq_by_cmp_equiv block_order_total

or_later : (b c : Bool) → c ≡ true → (b || c) ≡ true
or_later true c e = refl
or_later false c e = e

pub lesser_one : (a b : Option Row) (r : Row) → lesser a b ≡ Some r → (a ≡ Some r) ⊎ (b ≡ Some r)
lesser_one None b r e = inr e
lesser_one (Some a) None r e = inl e
lesser_one (Some a) (Some b) r e =
    elim (is_lt (place_cmp b.place a.place)) as (λ t. (if t then Some b else Some a) ≡ Some r → (Some a ≡ Some r) ⊎ (Some b ≡ Some r)) [
      | true ↦ λ h. inr h
      | false ↦ λ h. inl h
    ] e

pub chosen : (t : Bool) (x r : Row) → (if t then Some x else None) ≡ Some r → x ≡ r
chosen true x r e = cc
chosen false x r e = cc

first_is_member : (k : Key) (rows : List Row) (r : Row) → first_at k rows ≡ Some r → list_any (alike r) rows ≡ true
first_is_member k [] r e = cc
first_is_member k (x ∷ xs) r e =
    elim (lesser_one (row_at k x) (first_at k xs) r e) [
      | inl here ↦
          let same : x ≡ r = chosen (is_eq (key_cmp (row_key x) k)) x r here in
          ap (λ (y : Row). alike r y || list_any (alike r) xs) same ∙ ap (λ (t : Bool). t || list_any (alike r) xs) (alike_equiv.refl r)
      | inr later ↦ or_later (alike r x) (list_any (alike r) xs) (first_is_member k xs r later)
    ]

any_alike : (q r : Row) (rows : List Row) → alike q r ≡ true → list_any (alike q) rows ≡ list_any (alike r) rows
any_alike q r [] e = refl
any_alike q r (x ∷ xs) e = ap (λ (t : Bool). t || list_any (alike q) xs) (alike_equiv.congr q r x e) ∙ ap (λ (t : Bool). alike r x || t) (any_alike q r xs e)

members : (rows firsts : List Row) → AllByRecursion (λ r. first_at (row_key r) rows ≡ Some r) firsts → (q : Row) → list_any (alike q) firsts ≡ true → list_any (alike q) rows ≡ true
members rows [] only q e = cc
members rows (f ∷ fs) only q e =
    elim (alike q f) as (λ t. alike q f ≡ t → (t || list_any (alike q) fs) ≡ true → list_any (alike q) rows ≡ true) [
      | true ↦ λ same h. any_alike q f rows same ∙ first_is_member (row_key f) rows f only.0
      | false ↦ λ other h. members rows fs only.1 q h
    ] refl e

-- ---- order

ascend_sorted : (row : Row) (rows : List Row) → IsStrictlySortedBy block_order (row ∷ rows) → ascend_after row rows ≡ true
unfolding IsStrictlySortedBy
ascend_sorted row [] sorted = refl
ascend_sorted row (next ∷ rows) sorted = and_from (is_lt (block_order row next)) (ascend_after next rows) (ap is_lt sorted.0.0) (ascend_sorted next rows sorted.1)

all_ascend : (rows : List Row) → IsStrictlySortedBy block_order rows → ascend rows ≡ true
unfolding ascend
all_ascend [] sorted = refl
all_ascend (row ∷ rows) sorted = ascend_sorted row rows sorted

sorted_firsts : (rows firsts : List Row) → IsFirstOf rows firsts → IsStrictlySortedBy block_order firsts
unfolding IsStrictlySortedBy
sorted_firsts rows [] is = tt
sorted_firsts rows (f ∷ fs) is = sorted_from_all_adjacent block_order_total (f ∷ fs) f (λ k h. is.ordered k f h)

-- ---- some

some_first : (rows firsts : List Row) (r : Row) (o : Option Row) → IsFirstOf rows firsts → 0 < length rows → r ≡ slice_index_or rows 0 r → first_at (row_key r) rows ≡ o → 1 ≤ length firsts
some_first rows firsts r None is some same none =
    absurd (has_first rows 0 r some (ap (λ (x : Row). first_at (row_key x) rows) (sym same) ∙ none))
some_first rows firsts r (Some x) is some same e = (let there = is.whole (row_key r) x e in omega (arith, there.1))

some_firsts : (rows firsts : List Row) → IsFirstOf rows firsts → 1 ≤ length rows → 1 ≤ length firsts
some_firsts [] firsts is some = omega (arith, some)
some_firsts (r ∷ rs) firsts is some = some_first (r ∷ rs) firsts r (first_at (row_key r) (r ∷ rs)) is (omega (arith, some)) refl refl

-- ---- the whole

pub record CanBeBlock (rows firsts : List Row) : Type 0 where
  pub some : 1 ≤ length firsts
  pub few : length firsts ≤ length rows
  pub order : ascend firsts ≡ true

pub can_be_block : (rows firsts : List Row) → IsFirstOf rows firsts → 1 ≤ length rows → CanBeBlock rows firsts
can_be_block rows firsts is some =
    let sorted = sorted_firsts rows firsts is in
    record {
      some = some_firsts rows firsts is some;
      few = length-le_from_is_member alike_equiv firsts rows (IsDistinct-from_sorted block_order firsts sorted)
          (members rows firsts (recursion_from_All (λ r. first_at (row_key r) rows ≡ Some r) firsts is.only));
      order = all_ascend firsts sorted;
    }

-- Which form the first occurrences of rows want.
use Rattle.std.proofs.Common.{◌≡◌, ◌⊎◌, inl, inr, ℕ, zero, suc, Bool, true, false, ◌||◌, List, [], ◌∷◌, ◌++◌, Contains, Some, if◌then◌else◌, refl, sym, ap, ◌∙◌, arith}
use Rattle.std.specs.List.{list_any}
use Rattle.std.specs.Ordering.{is_eq}
use Rattle.std.proofs.lemmas.List.Elements.{All-contains}
use Rattle.span_types.specs.declared.ids.Key.{Key}
use Rattle.span_types.specs.declared.spans.Row.{Row}
use Rattle.span_types.specs.First.{IsFirstOf, first_at, row_at}
use Rattle.span_types.specs.Keys.{row_key}
use Rattle.span_types.specs.Orders.{key_cmp}
use Rattle.block_format.specs.Blocks.{form_of_rows, is_rich}
use Rattle.compactor.specs.Joining.{WantsOther}
use Rattle.block_build.proofs.Firsts.{chosen, lesser_one}
use Rattle.block_build.proofs.RowByRow.{wanted_more}
use Rattle.block_build.proofs.Whole.{a_form}

first_or_later : (x : Row) (xs : List Row) (r : Row) → Contains (x ∷ xs) r → (x ≡ r) ⊎ Contains xs r
first_or_later x xs r (zero, low, is) = inl is
first_or_later x xs r (suc k, low, is) = inr (k, omega (arith, low), is)

later : (x : Row) (xs : List Row) (r : Row) → Contains xs r → Contains (x ∷ xs) r
later x xs r m = (suc m.0, omega (arith, m.1), m.2)

no_row : (k : Key) (r : Row) → first_at k [] ≡ Some r → ⊥
no_row k r e = cc

-- the first row of a key is one of the rows
is_there : (k : Key) (rows : List Row) (r : Row) → first_at k rows ≡ Some r → Contains rows r
is_there k [] r e = absurd (no_row k r e)
is_there k (x ∷ xs) r e = elim (lesser_one (row_at k x) (first_at k xs) r e) [
  | inl here ↦ (0, omega arith, chosen (is_eq (key_cmp (row_key x) k)) x r here)
  | inr behind ↦ later x xs r (is_there k xs r behind)
]

abbrev Within : List Row → List Row → Type 0
Within xs ys = (r : Row) → Contains xs r → Contains ys r

firsts_within : (rows a b : List Row) → IsFirstOf rows a → IsFirstOf rows b → Within a b
firsts_within rows a b one two r m = two.whole (row_key r) r (All-contains (λ (x : Row). first_at (row_key x) rows ≡ Some x) a r one.only m)

rows_within : (rows a : List Row) → IsFirstOf rows a → Within a rows
rows_within rows a is r m = is_there (row_key r) rows r (All-contains (λ (x : Row). first_at (row_key x) rows ≡ Some x) a r is.only m)

-- ---- rows with an event or a link

or_later : (b c : Bool) → c ≡ true → (b || c) ≡ true
or_later true c e = refl
or_later false c e = e

rich_there : (xs : List Row) (r : Row) → Contains xs r → is_rich r ≡ true → list_any is_rich xs ≡ true
rich_there [] r m rich = absurd (omega (arith, m.1))
rich_there (x ∷ xs) r m rich = elim (first_or_later x xs r m) [
  | inl here ↦ ap (λ (t : Bool). t || list_any is_rich xs) (ap is_rich here ∙ rich)
  | inr behind ↦ or_later (is_rich x) (list_any is_rich xs) (rich_there xs r behind rich)
]

rich_within : (xs ys : List Row) → Within xs ys → list_any is_rich xs ≡ true → list_any is_rich ys ≡ true
rich_within [] ys within e = absurd (let bad : false ≡ true = e in cc)
rich_within (x ∷ xs) ys within e =
    elim (is_rich x) as (λ t. is_rich x ≡ t → (t || list_any is_rich xs) ≡ true → list_any is_rich ys ≡ true) [
      | true ↦ λ here _. rich_there ys x (within x (0, omega arith, refl)) here
      | false ↦ λ _ behind. rich_within xs ys (λ r m. within r (later x xs r m)) behind
    ] refl e

same_test : (a b : Bool) → (a ≡ true → b ≡ true) → (b ≡ true → a ≡ true) → a ≡ b
same_test true b f g = sym (f refl)
same_test false true f g = g refl
same_test false false f g = refl

abbrev form_by : Bool → ℕ
form_by any = if any then 2 else 1

-- first occurrences of the same rows want the same form
same_form : (rows a b : List Row) → IsFirstOf rows a → IsFirstOf rows b → form_of_rows a ≡ form_of_rows b
same_form rows a b one two =
    ap form_by (same_test (list_any is_rich a) (list_any is_rich b) (rich_within a b (firsts_within rows a b one two)) (rich_within b a (firsts_within rows b a two one)))

plain_by : (all some : Bool) → form_by all ≡ 1 → (some ≡ true → all ≡ true) → form_by some ≡ 1
plain_by all false e rich = refl
plain_by all true e rich = absurd (let two : form_by all ≡ 2 = ap form_by (rich refl) in omega (arith, e, two))

-- where no row has an event or a link, no first occurrence has
plain_firsts : (rows a : List Row) → IsFirstOf rows a → form_of_rows rows ≡ 1 → form_of_rows a ≡ 1
plain_firsts rows a is plain = plain_by (list_any is_rich rows) (list_any is_rich a) plain (rich_within a rows (rows_within rows a is))

-- ---- a form is found

pub wants_one : (rows : List Row) → WantsOther rows 2 → WantsOther rows 1 → ⊥
wants_one rows two one = elim (a_form (form_of_rows one.firsts) one.firsts refl) [
  | inl is ↦ one.other (sym is)
  | inr is ↦ two.other (sym is ∙ same_form rows one.firsts two.firsts one.are two.are)
]

pub wants_plain : (rows : List Row) → form_of_rows rows ≡ 1 → WantsOther rows 1 → ⊥
wants_plain rows plain one = one.other (sym (plain_firsts rows one.firsts one.are plain))

pub plain_more : (rows more : List Row) → form_of_rows rows ≡ 1 → (form_of_rows more ≡ 2 → ⊥) → form_of_rows (rows ++ more) ≡ 1
plain_more rows more plain other = elim (a_form (form_of_rows more) more refl) [
  | inl is ↦ (let both = wanted_more rows more in omega (arith, both, plain, is))
  | inr is ↦ absurd (other is)
]

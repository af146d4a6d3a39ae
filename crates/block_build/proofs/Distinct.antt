-- Rows no two of which are of one span are their own first occurrences.
use Rattle.std.proofs.Common.{◌≡◌, inl, inr, zero, suc, false, List, [], ◌∷◌, map, Option, Some, None, All, Contains, refl, ap, ◌∙◌, arith}
use Rattle.std.specs.List.{AllByRecursion, IsDistinct}
use Rattle.std.specs.List.Sorted.{IsPermutation, IsSortedBy}
use Rattle.std.specs.Ordering.{is_lt, is_eq, eq_by_cmp}
use Rattle.std.proofs.lemmas.Cmp.{eq_by_cmp_equiv, tied_itself}
use Rattle.std.proofs.lemmas.List.Sorted.{All-permutation, Contains-permutation, IsPermutation-map}
use Rattle.std.proofs.lemmas.Map.Keys.{IsDistinct-head, IsDistinct-tail, IsDistinct-IsPermutation}
use Rattle.span_types.specs.declared.ids.Key.{Key}
use Rattle.span_types.specs.declared.spans.Row.{Row}
use Rattle.span_types.specs.First.{IsFirstOf, first_at, lesser, row_at}
use Rattle.span_types.specs.Keys.{row_key}
use Rattle.span_types.specs.Orders.{block_order, key_cmp}
use Rattle.span_types.proofs.FirstLaws.{key_cmp_total, strictly_ordered}
use Rattle.block_build.proofs.Firsts.{chosen, lesser_one}

flips : (a b : Key) → eq_by_cmp key_cmp a b ≡ eq_by_cmp key_cmp b a
flips a b = (eq_by_cmp_equiv key_cmp_total).symm a b

-- no key of the list is this one
abbrev Differ : Key → List Row → Type 0
Differ k rows = AllByRecursion (λ y. eq_by_cmp key_cmp k y ≡ false) (map row_key rows)

not_here : (k : Key) (row : Row) → eq_by_cmp key_cmp k (row_key row) ≡ false → row_at k row ≡ None
not_here k row other =
    let test : is_eq (key_cmp (row_key row) k) ≡ false = flips (row_key row) k ∙ other in
    rw test refl

nowhere : (k : Key) (rows : List Row) → Differ k rows → first_at k rows ≡ None
nowhere k [] differ = refl
nowhere k (row ∷ rows) differ = rw (not_here k row differ.0) (nowhere k rows differ.1)

own_row : (row : Row) → row_at (row_key row) row ≡ Some row
own_row row = rw (tied_itself key_cmp_total (row_key row)) refl

-- what is said of rows by a list whose first row has another key is said by the longer list too
behind_other : (row : Row) (all rows : List Row) → Differ (row_key row) rows → AllByRecursion (λ r. first_at (row_key r) all ≡ Some r) rows → AllByRecursion (λ r. first_at (row_key r) (row ∷ all) ≡ Some r) rows
behind_other row all [] differ own = tt
behind_other row all (r ∷ rows) differ own =
    let other : row_at (row_key r) row ≡ None = not_here (row_key r) row (flips (row_key r) (row_key row) ∙ differ.0) in
    (ap (λ (o : Option Row). lesser o (first_at (row_key r) all)) other ∙ own.0, behind_other row all rows differ.1 own.1)

each_first : (rows : List Row) → IsDistinct (eq_by_cmp key_cmp) (map row_key rows) → AllByRecursion (λ r. first_at (row_key r) rows ≡ Some r) rows
each_first [] apart = tt
each_first (row ∷ rows) apart =
    let differ = IsDistinct-head (eq_by_cmp key_cmp) (row_key row) (map row_key rows) apart in
    let first : first_at (row_key row) (row ∷ rows) ≡ Some row = rw (own_row row, nowhere (row_key row) rows differ) refl in
    (first, behind_other row rows rows differ (each_first rows (IsDistinct-tail (eq_by_cmp key_cmp) (row_key row) (map row_key rows) apart)))

from_recursion : (P : Row → Type 0) (xs : List Row) → AllByRecursion P xs → All P xs
from_recursion P [] h k d low = absurd (omega (arith, low))
from_recursion P (x ∷ xs) h zero d low = h.0
from_recursion P (x ∷ xs) h (suc k) d low = from_recursion P xs h.1 k d (omega (arith, low))

there : (k : Key) (rows : List Row) (r : Row) → first_at k rows ≡ Some r → Contains rows r
there k [] r e = cc
there k (x ∷ xs) r e =
    elim (lesser_one (row_at k x) (first_at k xs) r e) [
      | inl here ↦ (0, omega arith, chosen (is_eq (key_cmp (row_key x) k)) x r here)
      | inr later ↦ let found = there k xs r later in (suc found.0, (let low = found.1 in omega (arith, low)), found.2)
    ]

-- Such rows in block order are their first occurrences.
pub firsts_distinct : (rows out : List Row) → IsDistinct (eq_by_cmp key_cmp) (map row_key rows) → IsPermutation rows out → IsSortedBy (λ a b. is_lt (block_order a b)) out → IsFirstOf rows out
firsts_distinct rows out apart moved up = record {
  only = All-permutation (λ r. first_at (row_key r) rows ≡ Some r) rows out moved (from_recursion (λ r. first_at (row_key r) rows ≡ Some r) rows (each_first rows apart));
  whole = λ k r e. Contains-permutation rows out r moved (there k rows r e);
  ordered = strictly_ordered out up (IsDistinct-IsPermutation (eq_by_cmp key_cmp) flips (map row_key rows) (map row_key out) (IsPermutation-map row_key rows out moved) apart);
}

-- A number is looked for among rising ones.
use Rattle.std.proofs.Common.{◌≡◌, ℕ, List, Bool, true, false, Result, Ok, Err, inl, inr, refl, sym, ◌∙◌, arith}
use Rattle.std.proofs.lemmas.Bool.{cases_lt}
use Rattle.std.specs.Prelude.{is_ok}
use Rattle.std.specs.List.Sorted.{IsNonDecreasing, IsBinarySearchResult}
use Rattle.std.specs.Ordering.{nat_cmp}
use Rattle.std.proofs.lemmas.List.{get_or_default}
use Rattle.std.proofs.lemmas.List.Sorted.{searched}
use Rattle.store_model.specs.State.{is_among}
use Rattle.store_model.proofs.Numbers.{among, named}
use Rattle.store_core.proofs.InUse.{contained_once, once_contained}

pub found_among : (file : ℕ) (files : List ℕ) (r : Result ℕ ℕ) → IsBinarySearchResult (λ y. nat_cmp y file) files r → IsNonDecreasing files → is_ok r ≡ is_among file files
found_among file files (Ok at) is up =
    let there = searched files file (Ok at) is (λ i j le below. up i j 0 le below) in
    sym (among file files (contained_once file files (at, there.0, get_or_default files at file 0 there.0 ∙ there.1)))
found_among file files (Err at) is up = by_test (is_among file files) refl
  where
    by_test : (t : Bool) → is_among file files ≡ t → false ≡ t
    by_test false e = refl
    by_test true e = absurd (
        let gap = searched files file (Err at) is (λ i j le below. up i j 0 le below) in
        let c = once_contained file files (named file files e) in
        let here = get_or_default files c.0 file 0 c.1 in
        let at_c = c.2 in
        elim (cases_lt c.0 at) [
          | inl low ↦ (let less = gap.1 c.0 low in omega (arith, less, here, at_c))
          | inr high ↦ (let more = gap.2 c.0 high c.1 in omega (arith, more, here, at_c))
        ])

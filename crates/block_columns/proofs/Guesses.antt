-- A value that is found where it was guessed to be.
use Rattle.std.proofs.Common.{◌≡◌, ℕ, zero, suc, ◌<◌, Bool, true, false, ltb, List, [], ◌∷◌, length, map, Option, Some, None, refl, sym, ap, subst, ◌∙◌, arith}
use Rattle.std.specs.List.{slice_get, list_any, position_or_len, AllByRecursion, IsDistinct}
use Rattle.std.specs.Cmp.{IsEquivalence}
use Rattle.std.proofs.lemmas.Option.{slice_get_within}
use Rattle.std.proofs.lemmas.Bool.{lt-ltb}
use Rattle.block_columns.proofs.Numbering.{any_position, position_step}

all_at : {A : Type 0} (P : A → Type 0) (xs : List A) (n : ℕ) (x : A) → AllByRecursion P xs → slice_get xs n ≡ Some x → P x
all_at P [] n x all at = absurd (cc)
all_at {A} P (y ∷ xs) zero x all at = (let same : y ≡ x = cc in subst P same all.0)
all_at P (y ∷ xs) (suc n) x all at = all_at P xs n x all.1 at

-- values that are seen by a view are equal as what is seen
pub seen_laws : {A T : Type 0} (view : A → T) (same : T → T → Bool) → IsEquivalence same → IsEquivalence (λ (a b : A). same (view a) (view b))
seen_laws view same laws = record {
  refl = λ a. laws.refl (view a);
  symm = λ a b. laws.symm (view a) (view b);
  congr = λ a b d. laws.congr (view a) (view b) (view d);
}

-- of distinct values one that is equal to the value at a number has that number
pub number_at_guess : {A : Type 0} (same : A → A → Bool) → IsEquivalence same → (keys : List A) (n : ℕ) (x k : A) → IsDistinct same keys → slice_get keys n ≡ Some k → same x k ≡ true → position_or_len (same x) keys ≡ n
unfolding IsDistinct
number_at_guess same laws [] n x k distinct at is = absurd (cc)
number_at_guess {A} same laws (y ∷ keys) zero x k distinct at is =
    let first : y ≡ k = cc in
    rw (position_step (same x) y keys, ap (λ (a : A). same x a) first ∙ is) refl
number_at_guess same laws (y ∷ keys) (suc n) x k distinct at is =
    let apart : same y k ≡ false = all_at (λ z. same y z ≡ false) keys n k distinct.0 at in
    rw (position_step (same x) y keys, laws.congr x k y is ∙ laws.symm k y ∙ apart) (ap suc (number_at_guess same laws keys n x k distinct.1 at is))

pub there_at_guess : {A : Type 0} (same : A → A → Bool) → IsEquivalence same → (keys : List A) (n : ℕ) (x k : A) → IsDistinct same keys → slice_get keys n ≡ Some k → same x k ≡ true → list_any (same x) keys ≡ true
there_at_guess same laws keys n x k distinct at is =
    any_position (same x) keys ∙ ap (λ (i : ℕ). ltb i (length keys)) (number_at_guess same laws keys n x k distinct at is) ∙ lt-ltb n (length keys) (slice_get_within keys n k at)

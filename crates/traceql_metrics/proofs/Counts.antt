-- Counts over the spansets that have the same values.
use Rattle.std.proofs.Common.{◌≡◌, ℕ, ◌+◌, ◌||◌, Bool, true, false, List, [], ◌∷◌, ◌++◌, ◌∙◌, refl, sym, ap, arith, filter, if◌then◌else◌}
use Rattle.std.specs.Prelude.{count_by}
use Rattle.std.specs.List.{flat_map, list_any, sum_by}
use Rattle.std.proofs.lemmas.List.Sums.{sum_by-append, sum_by-cons}

-- a count over parts of a list is a sum over the list
pub count_parts : {X : Type 0} (p : ℕ → Bool) (q : X → Bool) (f : X → List ℕ) (xs : List X) → count_by p (flat_map f (filter q xs)) ≡ sum_by (λ x. if q x then count_by p (f x) else 0) xs
count_parts p q f [] = refl
count_parts {X} p q f (x ∷ xs) =
    by_test (q x) (count_parts p q f xs) ∙ sym (sum_by-cons (λ x. if q x then count_by p (f x) else 0) x xs)
  where
    by_test : (t : Bool) → count_by p (flat_map f (filter q xs)) ≡ sum_by (λ x. if q x then count_by p (f x) else 0) xs →
        count_by p (flat_map f (if t then x ∷ filter q xs else filter q xs)) ≡ (if t then count_by p (f x) else 0) + sum_by (λ x. if q x then count_by p (f x) else 0) xs
    by_test true h = sum_by-append (λ n. if p n then 1 else 0) (f x) (flat_map f (filter q xs)) ∙ ap (λ n. count_by p (f x) + n) h
    by_test false h = h ∙ added (sum_by (λ x. if q x then count_by p (f x) else 0) xs)
      where
        added : (n : ℕ) → n ≡ 0 + n
        added n = omega arith

-- what counts nothing may be left out
pub sum_of_kept : {X : Type 0} (w : X → ℕ) (q : X → Bool) (xs : List X) → ((x : X) → q x ≡ false → w x ≡ 0) → sum_by w (filter q xs) ≡ sum_by w xs
sum_of_kept w q [] h = refl
sum_of_kept {X} w q (x ∷ xs) h = by_test (q x) refl (sum_of_kept w q xs h) ∙ sym (sum_by-cons w x xs)
  where
    by_test : (t : Bool) → q x ≡ t → sum_by w (filter q xs) ≡ sum_by w xs → sum_by w (if t then x ∷ filter q xs else filter q xs) ≡ w x + sum_by w xs
    by_test true e ih = sum_by-cons w x (filter q xs) ∙ ap (λ n. w x + n) ih
    by_test false e ih = let none : w x ≡ 0 = h x e in omega (arith, none, ih)

-- no moment outside of the range is in a bucket
pub none_counted : (p r : ℕ → Bool) (ms : List ℕ) → ((m : ℕ) → r m ≡ false → p m ≡ false) → list_any r ms ≡ false → count_by p ms ≡ 0
none_counted p r [] out h = refl
none_counted p r (m ∷ ms) out h =
    let first : r m ≡ false = not_first (r m) (list_any r ms) h in
    let more : count_by p ms ≡ 0 = none_counted p r ms out (not_second (r m) (list_any r ms) h) in
    sum_by-cons (λ n. if p n then 1 else 0) m ms ∙ ap (λ t. (if t then 1 else 0) + count_by p ms) (out m first) ∙ zero_and (count_by p ms) more
  where
    not_first : (s t : Bool) → (s || t) ≡ false → s ≡ false
    not_first true t h = cc
    not_first false t h = refl

    not_second : (s t : Bool) → (s || t) ≡ false → t ≡ false
    not_second true t h = cc
    not_second false t h = h

    zero_and : (n : ℕ) → n ≡ 0 → 0 + n ≡ 0
    zero_and n e = omega (arith, e)

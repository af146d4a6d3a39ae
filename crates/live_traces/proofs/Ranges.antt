-- Lists that are cut at a number.
use Rattle.std.proofs.Common.{◌≡◌, ℕ, ◌+◌, ◌-◌, ◌≤◌, zero, suc, min, List, [], ◌∷◌, ◌++◌, refl, sym, ◌∙◌, ap, arith, length, take, drop, take-take, drop-drop}
use Rattle.std.proofs.lemmas.List.{drop-take}

-- a part of a part
pub part_of : {X : Type 0} (xs : List X) (from to low high : ℕ) → low ≤ high → high ≤ to - from →
    take ((from + high) - (from + low)) (drop (from + low) xs) ≡ take (high - low) (drop low (take (to - from) (drop from xs)))
part_of xs from to low high l h =
    ap (λ n. take n (drop (from + low) xs)) (same from low high)
    ∙ ap (take (high - low)) (sym (drop-drop low from xs))
    ∙ sym (take-take (high - low) (to - from - low) (drop low (drop from xs)) (less (to - from) low high h))
    ∙ ap (take (high - low)) (sym (drop-take low (to - from - low) (drop from xs)) ∙ ap (λ n. drop low (take n (drop from xs))) (whole (to - from) low high l h))
  where
    same : (from low high : ℕ) → (from + high) - (from + low) ≡ high - low
    same from low high = omega arith

    less : (size low high : ℕ) → high ≤ size → high - low ≤ size - low
    less size low high h = omega (arith, h)

    whole : (size low high : ℕ) → low ≤ high → high ≤ size → low + (size - low) ≡ size
    whole size low high l h = omega (arith, l, h)

-- the first of two lists, and the others
take_both : {X : Type 0} (n : ℕ) (xs ys : List X) → take n (xs ++ ys) ≡ take n xs ++ take (n - length xs) ys
take_both zero xs ys = ap (λ k. take k ys) (none (length xs))
  where
    none : (k : ℕ) → 0 ≡ 0 - k
    none k = omega arith
take_both (suc n) [] ys = ap (λ k. take k ys) (all n)
  where
    all : (n : ℕ) → suc n ≡ suc n - 0
    all n = omega arith
take_both (suc n) (x ∷ xs) ys = ap (λ zs. x ∷ zs) (take_both n xs ys ∙ ap (λ k. take n xs ++ take k ys) (fewer n (length xs)))
  where
    fewer : (n k : ℕ) → n - k ≡ suc n - suc k
    fewer n k = omega arith

drop_both : {X : Type 0} (n : ℕ) (xs ys : List X) → drop n (xs ++ ys) ≡ drop n xs ++ drop (n - length xs) ys
drop_both zero xs ys = ap (λ k. xs ++ drop k ys) (none (length xs))
  where
    none : (k : ℕ) → 0 ≡ 0 - k
    none k = omega arith
drop_both (suc n) [] ys = ap (λ k. drop k ys) (all n)
  where
    all : (n : ℕ) → suc n ≡ suc n - 0
    all n = omega arith
drop_both (suc n) (x ∷ xs) ys = drop_both n xs ys ∙ ap (λ k. drop n xs ++ drop k ys) (fewer n (length xs))
  where
    fewer : (n k : ℕ) → n - k ≡ suc n - suc k
    fewer n k = omega arith

take_least : {X : Type 0} (k : ℕ) (ys : List X) → take (min (length ys) k) ys ≡ take k ys
take_least zero ys = ap (λ n. take n ys) (none (length ys))
  where
    none : (n : ℕ) → min n 0 ≡ 0
    none n = omega arith
take_least {X} (suc k) [] = let no : List X = [] in ap (λ n. take n no) (none k)
  where
    none : (k : ℕ) → min 0 (suc k) ≡ 0
    none k = omega arith
take_least (suc k) (y ∷ ys) = ap (λ n. take n (y ∷ ys)) (more (length ys) k) ∙ ap (λ zs. y ∷ zs) (take_least k ys)
  where
    more : (n k : ℕ) → min (suc n) (suc k) ≡ suc (min n k)
    more n k = omega arith

drop_least : {X : Type 0} (k : ℕ) (ys : List X) → drop (min (length ys) k) ys ≡ drop k ys
drop_least zero ys = ap (λ n. drop n ys) (none (length ys))
  where
    none : (n : ℕ) → min n 0 ≡ 0
    none n = omega arith
drop_least {X} (suc k) [] = let no : List X = [] in ap (λ n. drop n no) (none k)
  where
    none : (k : ℕ) → min 0 (suc k) ≡ 0
    none k = omega arith
drop_least (suc k) (y ∷ ys) = ap (λ n. drop n (y ∷ ys)) (more (length ys) k) ∙ drop_least k ys
  where
    more : (n k : ℕ) → min (suc n) (suc k) ≡ suc (min n k)
    more n k = omega arith

pub take_more_rows : {X : Type 0} (most left size : ℕ) (xs ys : List X) → left ≡ most - length xs → size ≡ min (length ys) left →
    take most xs ++ take size ys ≡ take most (xs ++ ys)
take_more_rows most left size xs ys l s =
    ap (λ n. take most xs ++ take n ys) s ∙ ap (λ zs. take most xs ++ zs) (take_least left ys)
    ∙ ap (λ n. take most xs ++ take n ys) l ∙ sym (take_both most xs ys)

pub drop_more_rows : {X : Type 0} (most left size : ℕ) (xs ys : List X) → left ≡ most - length xs → size ≡ min (length ys) left →
    drop most xs ++ drop size ys ≡ drop most (xs ++ ys)
drop_more_rows most left size xs ys l s =
    ap (λ n. drop most xs ++ drop n ys) s ∙ ap (λ zs. drop most xs ++ zs) (drop_least left ys)
    ∙ ap (λ n. drop most xs ++ drop n ys) l ∙ sym (drop_both most xs ys)

-- of two lists of which the first has so many
pub take_first : {X : Type 0} (xs ys : List X) (n : ℕ) → n ≡ length xs → take n (xs ++ ys) ≡ xs
take_first {X} xs ys n e = ap (λ k. take k (xs ++ ys)) e ∙ first xs
  where
    first : (zs : List X) → take (length zs) (zs ++ ys) ≡ zs
    first [] = refl
    first (z ∷ zs) = ap (λ q. z ∷ q) (first zs)

pub drop_first : {X : Type 0} (xs ys : List X) (n : ℕ) → n ≡ length xs → drop n (xs ++ ys) ≡ ys
drop_first {X} xs ys n e = ap (λ k. drop k (xs ++ ys)) e ∙ others xs
  where
    others : (zs : List X) → drop (length zs) (zs ++ ys) ≡ ys
    others [] = refl
    others (z ∷ zs) = others zs

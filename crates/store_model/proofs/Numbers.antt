-- Lists of numbers, and how often they name one.
use Rattle.std.proofs.Common.{rules, zero, suc, ◌≡◌, ℕ, ◌+◌, ◌<◌, ◌≤◌, ◌==◌, List, [], ◌∷◌, ◌++◌, Bool, true, false, refl, sym, ◌∙◌, ap, arith, map, filter, if◌then◌else◌, ◌⊎◌, inl, inr}
use Rattle.std.specs.Prelude.{◌||◌}
use Rattle.store_model.specs.State.{is_among}
use Rattle.store_model.specs.Sound.{times}

pub times-append : (n : ℕ) (xs ys : List ℕ) → times n (xs ++ ys) ≡ times n xs + times n ys
times-append n [] ys = omega arith
times-append n (x ∷ xs) ys = omega (arith, times-append n xs ys)

pub map_append : {X Y : Type 0} (f : X → Y) (xs ys : List X) → map f (xs ++ ys) ≡ map f xs ++ map f ys
map_append f [] ys = refl
map_append f (x ∷ xs) ys = ap (λ zs. f x ∷ zs) (map_append f xs ys)

pub same_number : (x n : ℕ) → (x == n) ≡ true → x ≡ n
same_number x n h = search rules

pub equal_itself : (n : ℕ) → (n == n) ≡ true
equal_itself n = search rules

-- filtered numbers
pub fewer_left : (n : ℕ) (p : ℕ → Bool) (xs : List ℕ) → times n (filter p xs) ≤ times n xs
fewer_left n p [] = omega arith
fewer_left n p (x ∷ xs) = by_test (p x) (fewer_left n p xs)
  where
    by_test : (t : Bool) → times n (filter p xs) ≤ times n xs → times n (if t then x ∷ filter p xs else filter p xs) ≤ times n (x ∷ xs)
    by_test true h = omega (arith, h)
    by_test false h = omega (arith, h)

pub all_left : (n : ℕ) (p : ℕ → Bool) (xs : List ℕ) → p n ≡ true → times n (filter p xs) ≡ times n xs
all_left n p [] h = refl
all_left n p (x ∷ xs) h = elim (x == n) as (λ t. (x == n) ≡ t → times n (if p x then x ∷ filter p xs else filter p xs) ≡ (if t then 1 else 0) + times n xs) [
  | true ↦ λ e. rw (ap p (same_number x n e) ∙ h) (rw e (ap (λ n. 1 + n) (all_left n p xs h)))
  | false ↦ λ e. by_test e (p x) (all_left n p xs h)
] refl
  where
    by_test : (x == n) ≡ false → (t : Bool) → times n (filter p xs) ≡ times n xs → times n (if t then x ∷ filter p xs else filter p xs) ≡ 0 + times n xs
    by_test e true h = rw e (ap (λ n. 0 + n) h)
    by_test e false h = omega (arith, h)

-- what passes a filter meets its test
pub passes : (n : ℕ) (p : ℕ → Bool) (xs : List ℕ) → is_among n (filter p xs) ≡ true → p n ≡ true
passes n p [] h = cc
passes n p (x ∷ xs) h = by_test (p x) refl h (λ t. passes n p xs t)
  where
    by_test : (t : Bool) → p x ≡ t → is_among n (if t then x ∷ filter p xs else filter p xs) ≡ true → (is_among n (filter p xs) ≡ true → p n ≡ true) → p n ≡ true
    by_test false e h ih = ih h
    by_test true e h ih = elim (x == n) as (λ t. (x == n) ≡ t → (t || is_among n (filter p xs)) ≡ true → p n ≡ true) [
      | true ↦ λ s _. ap p (sym (same_number x n s)) ∙ e
      | false ↦ λ _ h. ih h
    ] refl h

-- a number that is named is among the list, and one that isn't is not
pub among : (n : ℕ) (xs : List ℕ) → 1 ≤ times n xs → is_among n xs ≡ true
among n [] h = absurd (omega (arith, h))
among n (x ∷ xs) h = elim (x == n) as (λ t. 1 ≤ (if t then 1 else 0) + times n xs → (t || is_among n xs) ≡ true) [
  | true ↦ λ h. refl
  | false ↦ λ h. among n xs (omega (arith, h))
] h

pub named : (n : ℕ) (xs : List ℕ) → is_among n xs ≡ true → 1 ≤ times n xs
named n [] h = cc
named n (x ∷ xs) h = elim (x == n) as (λ t. (t || is_among n xs) ≡ true → 1 ≤ (if t then 1 else 0) + times n xs) [
  | true ↦ λ h. omega arith
  | false ↦ λ h. omega (arith, named n xs h)
] h

pub not_among : (n : ℕ) (xs : List ℕ) → times n xs ≡ 0 → is_among n xs ≡ false
not_among n xs h = elim (is_among n xs) as (λ t. is_among n xs ≡ t → t ≡ false) [
  | true ↦ λ e. absurd (omega (arith, named n xs e, h))
  | false ↦ λ e. refl
] refl

pub not_named : (n : ℕ) (xs : List ℕ) → is_among n xs ≡ false → times n xs ≡ 0
not_named n [] h = refl
not_named n (x ∷ xs) h = elim (x == n) as (λ t. (t || is_among n xs) ≡ false → (if t then 1 else 0) + times n xs ≡ 0) [
  | true ↦ λ h. cc
  | false ↦ λ h. omega (arith, not_named n xs h)
] h

-- one number by itself, and two neighbours
pub times_one : (n x : ℕ) → times n (x ∷ []) ≤ 1
times_one n x = elim (x == n) as (λ t. (if t then 1 else 0) + 0 ≤ 1) [ true ↦ omega arith | false ↦ omega arith ]

pub times_itself : (n : ℕ) → times n (n ∷ []) ≡ 1
times_itself n = rw (equal_itself n) (omega arith)

pub times_not : (n x : ℕ) → x < n ⊎ n < x → times n (x ∷ []) ≡ 0
times_not n x h = elim (x == n) as (λ t. (x == n) ≡ t → (if t then 1 else 0) + 0 ≡ 0) [
  | true ↦ λ e. apart (same_number x n e) h
  | false ↦ λ e. refl
] refl
  where
    apart : x ≡ n → x < n ⊎ n < x → 1 + 0 ≡ 0
    apart e (inl h) = omega (arith, e, h)
    apart e (inr h) = omega (arith, e, h)

pub times_two : (n x : ℕ) → times n (x ∷ (x + 1) ∷ []) ≤ 1
times_two n x = elim (x == n) as (λ t. (x == n) ≡ t → (if t then 1 else 0) + times n ((x + 1) ∷ []) ≤ 1) [
  | true ↦ λ e. omega (arith, times_not n (x + 1) (inr (omega (arith, same_number x n e))))
  | false ↦ λ e. omega (arith, times_one n (x + 1))
] refl

pub times_pair : (n a b : ℕ) → times n (a ∷ b ∷ []) ≡ times n (a ∷ []) + times n (b ∷ [])
times_pair n a b = omega arith

pub below_or_not : (n x : ℕ) → (n < x) ⊎ (x ≤ n)
below_or_not n x = search (rules)

-- one of two implies a third, where each does
pub pinned_too : (a b c : ℕ) → (1 ≤ a → 1 ≤ b) → c ≤ b → 1 ≤ a + c → 1 ≤ b
pinned_too zero b c f l h = omega (arith, l, h)
pinned_too (suc a) b c f l h = f (omega arith)

-- the number that a list of one names, and those that a list of two neighbours names
pub one_number : (n x : ℕ) → 1 ≤ times n (x ∷ []) → n ≡ x
one_number n x h = elim (x == n) as (λ t. (x == n) ≡ t → 1 ≤ (if t then 1 else 0) + 0 → n ≡ x) [
  | true ↦ λ e _. sym (same_number x n e)
  | false ↦ λ e h. absurd (omega (arith, h))
] refl h

pub two_numbers : (n x : ℕ) → 1 ≤ times n (x ∷ (x + 1) ∷ []) → (x ≤ n) × (n < x + 2)
two_numbers n x h = elim (x == n) as (λ t. (x == n) ≡ t → 1 ≤ (if t then 1 else 0) + times n ((x + 1) ∷ []) → (x ≤ n) × (n < x + 2)) [
  | true ↦ λ e _. (let s = same_number x n e in (omega (arith, s), omega (arith, s)))
  | false ↦ λ e h. (let s = one_number n (x + 1) (omega (arith, h)) in (omega (arith, s), omega (arith, s)))
] refl h

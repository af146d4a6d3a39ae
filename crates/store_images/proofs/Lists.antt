-- Members of lists.
use Rattle.std.proofs.Common.{◌≡◌, ◌⊎◌, inl, inr, zero, suc, Bool, true, false, if◌then◌else◌, List, [], ◌∷◌, map, filter, refl, subst, arith}
use Rattle.std.specs.List.{Contains}

pub not_in_nil : {X : Type 0} (x : X) → Contains [] x → ⊥
not_in_nil x c = absurd (omega (arith, c.1))

pub at_front : {X : Type 0} (x : X) (xs : List X) → Contains (x ∷ xs) x
at_front x xs = (zero, omega arith, refl)

pub behind : {X : Type 0} (x y : X) (xs : List X) → Contains xs x → Contains (y ∷ xs) x
behind x y xs (k, l, e) = (suc k, omega (arith, l), e)

pub in_cons : {X : Type 0} (x y : X) (ys : List X) → Contains (y ∷ ys) x → (y ≡ x) ⊎ Contains ys x
in_cons x y ys (zero, l, e) = inl e
in_cons x y ys (suc k, l, e) = inr (k, omega (arith, l), e)

pub in_map : {X Y : Type 0} (f : X → Y) (xs : List X) (x : X) → Contains xs x → Contains (map f xs) (f x)
in_map f [] x c = absurd (not_in_nil x c)
in_map f (y ∷ ys) x c = elim (in_cons x y ys c) [
  | inl is ↦ subst (λ z. Contains (f y ∷ map f ys) (f z)) is (at_front (f y) (map f ys))
  | inr rest ↦ behind (f x) (f y) (map f ys) (in_map f ys x rest)
]

pub was_in : {X : Type 0} (p : X → Bool) (xs : List X) (x : X) → Contains (filter p xs) x → Contains xs x
was_in p [] x c = c
was_in {X} p (y ∷ ys) x c = by_test (p y) c (λ d. was_in p ys x d)
  where
    by_test : (t : Bool) → Contains (if t then y ∷ filter p ys else filter p ys) x → (Contains (filter p ys) x → Contains ys x) → Contains (y ∷ ys) x
    by_test true d rest = elim (in_cons x y (filter p ys) d) [
      | inl is ↦ subst (λ (z : X). Contains (y ∷ ys) z) is (at_front y ys)
      | inr other ↦ behind x y ys (rest other)
    ]
    by_test false d rest = behind x y ys (rest d)

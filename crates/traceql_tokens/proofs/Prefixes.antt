-- Lists that begin with others, and the first of a table that passes.
use Rattle.std.proofs.Common.{◌≡◌, ℕ, zero, suc, ◌≤◌, Bool, true, false, ◌&&◌, cond, eqb, List, [], ◌∷◌, ◌++◌, length, drop, slice_get, Some, find, nat_eq, refl, ap, ap₂, sym, arith, eqb-true, eq-eqb, subst}
use Rattle.std.specs.List.{Contains, starts_with}

pub both : (x y : Bool) → (x && y) ≡ true → (x ≡ true) × (y ≡ true)
both true true h = (refl, refl)
both true false h = absurd (cc)
both false y h = absurd (cc)

-- what begins with a text is that text and a rest
pub starts_true : (xs needle : List ℕ) → starts_with nat_eq xs needle ≡ true → xs ≡ needle ++ drop (length needle) xs
starts_true xs [] h = refl
starts_true [] (n ∷ ns) h = absurd (cc)
starts_true (x ∷ xs) (n ∷ ns) h =
    let parts = both (eqb n x) (starts_with nat_eq xs ns) h in
    ap₂ (λ a b. a ∷ b) (sym (eqb-true n x parts.0)) (starts_true xs ns parts.1)

pub starts_of : (needle rest : List ℕ) → starts_with nat_eq (needle ++ rest) needle ≡ true
starts_of [] rest = refl
starts_of (n ∷ ns) rest = ap₂ (λ a b. a && b) (eq-eqb n n refl) (starts_of ns rest)

pub starts_fits : (xs needle : List ℕ) → starts_with nat_eq xs needle ≡ true → length needle ≤ length xs
starts_fits xs [] h = omega arith
starts_fits [] (n ∷ ns) h = absurd (cc)
starts_fits (x ∷ xs) (n ∷ ns) h = omega (arith, starts_fits xs ns (both (eqb n x) (starts_with nat_eq xs ns) h).1)

by_head : {X : Type 0} (p : X → Bool) (x y : X) (xs : List X) (t : Bool) → p x ≡ t → cond t (Some x) (find p xs) ≡ Some y → (find p xs ≡ Some y → p y ≡ true) → p y ≡ true
by_head p x y xs true e h rest = let same : x ≡ y = cc in subst (λ z. p z ≡ true) same e
by_head p x y xs false e h rest = rest h

-- what a search gives passes the test
pub find_passes : {X : Type 0} (p : X → Bool) (y : X) (xs : List X) → find p xs ≡ Some y → p y ≡ true
find_passes p y [] h = absurd (cc)
find_passes p y (x ∷ xs) h = by_head p x y xs (p x) refl h (find_passes p y xs)

there_by : {X : Type 0} (p : X → Bool) (x y : X) (xs : List X) (t : Bool) → cond t (Some x) (find p xs) ≡ Some y → (find p xs ≡ Some y → Contains xs y) → Contains (x ∷ xs) y
there_by p x y xs true h rest = let same : x ≡ y = cc in (0, omega arith, same)
there_by p x y xs false h rest = let there = rest h in (suc there.0, omega (arith, there.1), there.2)

-- and stands in the table
pub find_there : {X : Type 0} (p : X → Bool) (y : X) (xs : List X) → find p xs ≡ Some y → Contains xs y
find_there p y [] h = absurd (cc)
find_there p y (x ∷ xs) h = there_by p x y xs (p x) h (find_there p y xs)

-- where an entry stands
pub place_of : {X : Type 0} (x : X) (xs : List X) → Contains xs x → (i : ℕ) × (slice_get xs i ≡ Some x)
place_of x [] h = absurd (omega (arith, h.1))
place_of x (y ∷ ys) (zero, lt, e) = (0, ap Some e)
place_of x (y ∷ ys) (suc i, lt, e) = let later = place_of x ys (i, omega arith, e) in (suc later.0, later.1)

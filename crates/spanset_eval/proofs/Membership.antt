-- Members of lists, by cases on the list.
use Rattle.std.proofs.Common.{◌≡◌, ℕ, zero, suc, ◌<◌, List, [], ◌∷◌, length, get_or, map, Contains, Bool, true, false, cond, refl, sym, ap, ◌∙◌, subst, ◌⊎◌, inl, inr, arith}
use Rattle.std.specs.List.{filter}

abbrev pub In : {X : Type 0} → X → List X → Type 0
In x [] = ⊥
In x (y ∷ ys) = (y ≡ x) ⊎ In x ys

pub in_of : {X : Type 0} (xs : List X) (x : X) → Contains xs x → In x xs
in_of [] x h = let l = h.1 in absurd (omega arith)
in_of (y ∷ ys) x h = at h.0 h.1 h.2 (in_of ys x)
  where
    at : (k : ℕ) → k < length (y ∷ ys) → get_or (y ∷ ys) k x ≡ x → (Contains ys x → In x ys) → In x (y ∷ ys)
    at zero l e rest = inl e
    at (suc k) l e rest = inr (rest (k, omega arith, e))

pub of_in : {X : Type 0} (xs : List X) (x : X) → In x xs → Contains xs x
of_in [] x h = absurd h
of_in (y ∷ ys) x h = elim h as (λ _. Contains (y ∷ ys) x) [
  | inl e ↦ (zero, omega arith, e)
  | inr m ↦ let w = of_in ys x m in let l = w.1 in (suc w.0, omega arith, w.2)
]

pub map_in : {X Y : Type 0} (f : X → Y) (xs : List X) (x : X) → In x xs → In (f x) (map f xs)
map_in f [] x h = absurd h
map_in f (y ∷ ys) x h = elim h as (λ _. In (f x) (map f (y ∷ ys))) [ inl e ↦ inl (ap f e) | inr m ↦ inr (map_in f ys x m) ]

pub in_map : {X Y : Type 0} (f : X → Y) (xs : List X) (y : Y) → In y (map f xs) → (x : X) × In x xs × (f x ≡ y)
in_map f [] y h = absurd h
in_map {X} {Y} f (x ∷ xs) y h = elim h as (λ _. (z : X) × In z (x ∷ xs) × (f z ≡ y)) [
  | inl e ↦ (x, inl refl, e)
  | inr m ↦ let w = in_map f xs y m in (w.0, inr w.1, w.2)
]

pub in_filter : {X : Type 0} (p : X → Bool) (xs : List X) (x : X) → In x (filter p xs) → (p x ≡ true) × In x xs
in_filter p [] x h = absurd h
in_filter p (y ∷ ys) x h = by (p y) refl h (in_filter p ys x)
  where
    by : (b : Bool) → p y ≡ b → In x (cond b (y ∷ filter p ys) (filter p ys)) → (In x (filter p ys) → (p x ≡ true) × In x ys) → (p x ≡ true) × In x (y ∷ ys)
    by true e m rest = elim m as (λ _. (p x ≡ true) × In x (y ∷ ys)) [
      | inl s ↦ (subst (λ z. p z ≡ true) s e, inl s)
      | inr r ↦ let w = rest r in (w.0, inr w.1)
    ]
    by false e m rest = let w = rest m in (w.0, inr w.1)

pub filter_in : {X : Type 0} (p : X → Bool) (xs : List X) (x : X) → p x ≡ true → In x xs → In x (filter p xs)
filter_in p [] x e h = absurd h
filter_in p (y ∷ ys) x e h = by (p y) refl (filter_in p ys x e)
  where
    by : (b : Bool) → p y ≡ b → (In x ys → In x (filter p ys)) → In x (cond b (y ∷ filter p ys) (filter p ys))
    by true t rest = elim h as (λ _. In x (y ∷ filter p ys)) [ inl s ↦ inl s | inr m ↦ inr (rest m) ]
    by false f rest = elim h as (λ _. In x (filter p ys)) [
      | inl s ↦ let clash : false ≡ true = sym f ∙ subst (λ z. p z ≡ true) (sym s) e in cc
      | inr m ↦ rest m
    ]

-- The first run of a list, and the runs after it.
use Rattle.std.proofs.Common.{◌≡◌, ℕ, zero, suc, ◌+◌, ◌-◌, ◌<◌, Bool, true, false, cond, List, [], ◌∷◌, ◌++◌, length, take, drop, map, refl, sym, ap, ◌∙◌, subst, arith}
use Rattle.std.proofs.lemmas.List.{drop-map, take-map}
use Rattle.span_runs.specs.Runs.{as_run, in_front, runs}

-- how many items the first run has
abbrev pub run_len : {A : Type 0} → (A → A → Bool) → List A → ℕ
run_len same [] = 0
run_len same (x ∷ []) = 1
run_len same (x ∷ y ∷ ys) = cond (same x y) (suc (run_len same (y ∷ ys))) 1

run_len-cons : {A : Type 0} (same : A → A → Bool) (x : A) (xs : List A) → (m : ℕ) × (run_len same (x ∷ xs) ≡ suc m)
run_len-cons same x [] = (0, refl)
run_len-cons same x (y ∷ ys) = elim (same x y) as (λ b. (m : ℕ) × (cond b (suc (run_len same (y ∷ ys))) 1 ≡ suc m)) [ true ↦ (run_len same (y ∷ ys), refl) | false ↦ (0, refl) ]

-- a list's first run and the rest of it
abbrev Splits : {A : Type 0} → (A → A → Bool) → List A → ℕ → Type 0
Splits same xs n = runs same xs ≡ as_run (take n xs) ++ runs same (drop n xs)

longer : {A : Type 0} (same : A → A → Bool) (x y : A) (ys : List A) (n m : ℕ) (b : Bool) → n ≡ suc m → same x y ≡ b → Splits same (y ∷ ys) n
    → Splits same (x ∷ y ∷ ys) (cond b (suc n) 1)
longer same x y ys n m true is together ih =
    let later : runs same (y ∷ ys) ≡ (y, take m ys) ∷ runs same (drop m ys) = rw is at ih in
    rw is (ap (in_front same x) later ∙ rw together refl)
longer same x y ys n m false is apart ih =
    let later : runs same (y ∷ ys) ≡ (y, take m ys) ∷ runs same (drop m ys) = rw is at ih in
    ap (in_front same x) later ∙ rw apart (ap (λ l. (x, []) ∷ l) (sym later))

runs_split : {A : Type 0} (same : A → A → Bool) (xs : List A) → Splits same xs (run_len same xs)
runs_split same [] = refl
runs_split same (x ∷ []) = refl
runs_split same (x ∷ y ∷ ys) =
    let n = run_len-cons same y ys in
    longer same x y ys (run_len same (y ∷ ys)) n.0 (same x y) n.1 refl (runs_split same (y ∷ ys))

-- the first run of what f gives of items
pub first_run_split : {A S : Type 0} (same : S → S → Bool) (f : A → S) (xs front later : List A) (n : ℕ)
    → n ≡ run_len same (map f xs) → front ≡ take n xs → later ≡ drop n xs
    → runs same (map f xs) ≡ as_run (map f front) ++ runs same (map f later)
first_run_split {A} {S} same f xs front later n len is_front is_later =
    subst (λ k. Splits same (map f xs) k) (sym len) (runs_split same (map f xs))
    ∙ ap (λ (l : List S). as_run l ++ runs same (drop n (map f xs))) (take-map f n xs ∙ ap (map f) (sym is_front))
    ∙ ap (λ (l : List S). as_run (map f front) ++ runs same l) (drop-map f n xs ∙ ap (map f) (sym is_later))

last_one : {A : Type 0} (xs : List A) (i : ℕ) → suc i ≡ length xs → (x : A) × (drop i xs ≡ x ∷ [])
last_one [] i h = absurd (omega arith)
last_one (x ∷ []) zero h = (x, refl)
last_one (x ∷ y ∷ ys) zero h = absurd (omega arith)
last_one (x ∷ xs) (suc i) h = last_one xs i (omega arith)

-- all the items are of the first run
pub run_len_ends : {A S : Type 0} (same : S → S → Bool) (f : A → S) (xs : List A) (n : ℕ)
    → run_len same (map f xs) ≡ (n - 1) + run_len same (map f (drop (n - 1) xs)) → 0 < n → n ≡ length xs → n ≡ run_len same (map f xs)
run_len_ends {A} same f xs n so_far some all =
    let last = last_one xs (n - 1) (omega arith) in
    let one : run_len same (map f (drop (n - 1) xs)) ≡ 1 = ap (λ (l : List A). run_len same (map f l)) last.1 in
    omega arith

-- The runs of a list: they are its items, neighbours of one run go together, and what holds of each item holds in each run.
use Rattle.std.proofs.Common.{◌≡◌, Bool, true, false, cond, List, [], ◌∷◌, ◌++◌, length, map, All, refl, sym, ap, subst, ◌∙◌, inl, inr, arith}
use Rattle.std.specs.Bool.{Decides}
use Rattle.std.specs.List.{AllByRecursion, flat_map}
use Rattle.std.proofs.lemmas.Bool.{cases_Bool}
use Rattle.std.proofs.lemmas.List.Elements.{All-append, All-nil}
use Rattle.span_types.specs.declared.spans.Span.{Span}
use Rattle.span_runs.specs.Runs.{in_front, of_one, runs}

-- the items of a run, and of runs
abbrev pub run_items : {A : Type 0} → A × List A → List A
run_items run = run.0 ∷ run.1

abbrev pub all_of : {A : Type 0} → List (A × List A) → List A
all_of rs = flat_map run_items rs

all_of-in_front : {A : Type 0} (same : A → A → Bool) (x : A) (rs : List (A × List A)) → all_of (in_front same x rs) ≡ x ∷ all_of rs
all_of-in_front same x [] = refl
all_of-in_front same x ((y, ys) ∷ later) =
    elim (same x y) as (λ b. all_of (cond b ((x, y ∷ ys) ∷ later) ((x, []) ∷ (y, ys) ∷ later)) ≡ x ∷ all_of ((y, ys) ∷ later)) [ true ↦ refl | false ↦ refl ]

pub all_of-runs : {A : Type 0} (same : A → A → Bool) (xs : List A) → all_of (runs same xs) ≡ xs
all_of-runs same [] = refl
all_of-runs {A} same (x ∷ xs) = all_of-in_front same x (runs same xs) ∙ ap (λ (l : List A). x ∷ l) (all_of-runs same xs)

-- ---- neighbours

-- each goes with the next one
abbrev pub AreLinked : {A : Type 0} → (A → A → Bool) → A → List A → Type 0
AreLinked same x [] = Unit {0}
AreLinked same x (y ∷ ys) = (same x y ≡ true) × AreLinked same y ys

abbrev pub last_item : {A : Type 0} → A → List A → A
last_item x [] = x
last_item x (y ∷ ys) = last_item y ys

-- each run is of neighbours that go together, and the last of a run doesn't go with the first of the next one
abbrev pub AreRuns : {A : Type 0} → (A → A → Bool) → List (A × List A) → Type 0
AreRuns same [] = Unit {0}
AreRuns same (r ∷ []) = AreLinked same r.0 r.1
AreRuns same (r ∷ q ∷ rs) = AreLinked same r.0 r.1 × (same (last_item r.0 r.1) q.0 ≡ false) × AreRuns same (q ∷ rs)

front_longer : {A : Type 0} (same : A → A → Bool) (x y : A) (ys : List A) (later : List (A × List A)) → same x y ≡ true
    → AreRuns same ((y, ys) ∷ later) → AreRuns same ((x, y ∷ ys) ∷ later)
front_longer same x y ys [] e h = (e, h)
front_longer same x y ys (q ∷ later) e h = ((e, h.0), h.1, h.2)

AreRuns-in_front : {A : Type 0} (same : A → A → Bool) (x : A) (rs : List (A × List A)) → AreRuns same rs → AreRuns same (in_front same x rs)
AreRuns-in_front same x [] h = tt
AreRuns-in_front same x ((y, ys) ∷ later) h =
    elim (cases_Bool (same x y)) [
      | inl e ↦ rw e (front_longer same x y ys later e h)
      | inr e ↦ rw e (tt, e, h)
    ]

pub AreRuns-runs : {A : Type 0} (same : A → A → Bool) (xs : List A) → AreRuns same (runs same xs)
AreRuns-runs same [] = tt
AreRuns-runs same (x ∷ xs) = AreRuns-in_front same x (runs same xs) (AreRuns-runs same xs)

abbrev pub EachLinked : {A : Type 0} → (A → A → Bool) → List (A × List A) → Type 0
EachLinked same rs = AllByRecursion (λ r. AreLinked same r.0 r.1) rs

pub each_linked : {A : Type 0} (same : A → A → Bool) (rs : List (A × List A)) → AreRuns same rs → EachLinked same rs
each_linked same [] h = tt
each_linked same (r ∷ []) h = (h, tt)
each_linked same (r ∷ q ∷ rs) h = (h.0, each_linked same (q ∷ rs) h.2)

-- the spans of a run come from one origin
pub origins_equal : {O : Type 0} (same : O → O → Bool) (of : Span → O) → ((a b : O) → Decides (same a b) (a ≡ b))
    → (x : Span) (xs : List Span) → AreLinked (of_one same of) x xs → AllByRecursion (λ s. of s ≡ of x) xs
origins_equal same of decides x [] h = tt
origins_equal {O} same of decides x (y ∷ ys) h =
    let e : of x ≡ of y = (decides (of x) (of y)).0 h.0 in
    (sym e, subst (λ (o : O). AllByRecursion (λ s. of s ≡ o) ys) (sym e) (origins_equal same of decides y ys h.1))

-- ---- what holds of each item

all_split : {A : Type 0} (P : A → Type 0) (xs ys : List A) → AllByRecursion P (xs ++ ys) → AllByRecursion P xs × AllByRecursion P ys
all_split P [] ys h = (tt, h)
all_split P (x ∷ xs) ys h = let t = all_split P xs ys h.1 in ((h.0, t.0), t.1)

each_run : {A : Type 0} (P : A → Type 0) (rs : List (A × List A)) → AllByRecursion P (all_of rs) → AllByRecursion (λ r. AllByRecursion P (run_items r)) rs
each_run P [] h = tt
each_run P (r ∷ rs) h = let halves = all_split P (run_items r) (all_of rs) h in (halves.0, each_run P rs halves.1)

-- what holds of each item of a list holds of each item of its runs
pub each_of_runs : {A : Type 0} (same : A → A → Bool) (P : A → Type 0) (xs : List A) → AllByRecursion P xs
    → AllByRecursion (λ r. AllByRecursion P (run_items r)) (runs same xs)
each_of_runs {A} same P xs h = each_run P (runs same xs) (subst (λ (l : List A). AllByRecursion P l) (sym (all_of-runs same xs)) h)

-- ---- what holds of each run, as they are gone over one after the other

-- of the first run and of those after it
pub runs_hold : {R : Type 0} (P : R → Type 0) (all first later : List R) → all ≡ first ++ later → All P first → All P later → All P all
runs_hold {R} P all first later split one rest = subst (λ (l : List R). All P l) (sym split) (All-append P first later one rest)

-- no item has no run
pub no_runs_hold : {A S : Type 0} (P : S × List S → Type 0) (same : S → S → Bool) (f : A → S) (xs : List A) → length xs ≡ 0 → All P (runs same (map f xs))
no_runs_hold P same f [] none = All-nil P
no_runs_hold P same f (x ∷ xs) none = absurd (omega arith)

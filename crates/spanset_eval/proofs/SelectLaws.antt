-- What an expression over spansets selects, by marks.
use Rattle.std.proofs.Common.{◌≡◌, ℕ, zero, suc, ◌+◌, ◌<◌, ◌≤◌, List, [], ◌∷◌, ◌++◌, length, get_or, map, Contains, Bool, true, false, cond, Option, Some, Result, Ok, Err, refl, sym, ap, ◌∙◌, subst, ◌⊎◌, inl, inr, arith}
use Rattle.std.proofs.Common.{slice_get}
use Rattle.std.specs.List.{filter}
use Rattle.std.specs.Result.{IfOk, OnOk}
use Rattle.std.specs.List.Sorted.{IsStrictlyIncreasing}
use Rattle.std.proofs.lemmas.Option.{same_Some}
use Rattle.std.proofs.lemmas.List.{length-map, append-nil}
use Rattle.std.proofs.lemmas.List.Elements.{filter-append}
use Rattle.span_types.specs.declared.spans.Row.{Row}
use Rattle.traceql_syntax.specs.Trees.{Placed}
use Rattle.traceql_types.specs.declared.pattern.Pattern.{Pattern}
use Rattle.spanset_eval.specs.Marked.{mark_at, MarksSet}
use Rattle.spanset_eval.specs.Outcomes.{IsListOf}
use Rattle.spanset_eval.specs.Sets.{filter_span, PassesFilter}
use Rattle.spanset_eval.specs.Stages.{positions_from}
use Rattle.spanset_eval.proofs.MarkLaws.{in_marks}

-- What holds of a result's value, so does what follows from it.
pub if_ok : {T E : Type 0} (r : Result T E) (P Q : T → Type 0) → ((x : T) → P x → Q x) → IfOk r P → IfOk r Q
if_ok (Ok x) P Q f h = f x h
if_ok (Err e) P Q f h = h

pub on_ok : {T E : Type 0} (r : Result T E) (P Q : Type 0) → (P → Q) → OnOk r P → OnOk r Q
on_ok (Ok x) P Q f h = f h
on_ok (Err e) P Q f h = h

kept_only : (f : Row → Bool) (rows : List Row) (y : ℕ) → get_or (map f rows) y false ≡ true → (r : Row) × (slice_get rows y ≡ Some r) × (f r ≡ true)
kept_only f [] y h = cc
kept_only f (r ∷ rows) zero h = (r, refl, h)
kept_only f (r ∷ rows) (suc y) h = kept_only f rows y h

kept_whole : (f : Row → Bool) (rows : List Row) (y : ℕ) (r : Row) → slice_get rows y ≡ Some r → f r ≡ true → get_or (map f rows) y false ≡ true
kept_whole f [] y r is so = cc
kept_whole f (q ∷ rows) zero r is so = ap f (same_Some q r is) ∙ so
kept_whole f (q ∷ rows) (suc y) r is so = kept_whole f rows y r is so

-- The marks of a filter stand for what it keeps.
pub kept_set : (ps : List Pattern) (rows : List Row) (condition : Option Placed) (marks : List Bool) → marks ≡ map (λ (r : Row). filter_span ps rows condition r.span) rows →
    MarksSet (length rows) (PassesFilter ps rows condition) marks
kept_set ps rows condition marks is = record {
  one_each = ap length is ∙ length-map rows (λ (r : Row). filter_span ps rows condition r.span);
  only = λ y h.
      let w = kept_only (λ (r : Row). filter_span ps rows condition r.span) rows y (subst (λ ms. get_or ms y false ≡ true) is h) in
      record { row = w.0; is = w.1; kept = w.2 };
  whole = λ y h.
      subst (λ ms. get_or ms y false ≡ true) (sym is) (kept_whole (λ (r : Row). filter_span ps rows condition r.span) rows y h.row h.is h.kept);
}

-- ---- lists of positions

-- One position more.
positions_next : (first n : ℕ) → positions_from first (suc n) ≡ positions_from first n ++ (first + n) ∷ []
positions_next first zero = ap (λ k. k ∷ []) (same first)
  where
    same : (k : ℕ) → k ≡ k + 0
    same k = omega arith
positions_next first (suc n) = ap (λ xs. first ∷ xs) (positions_next (suc first) n ∙ ap (λ k. positions_from (suc first) n ++ k ∷ []) (same first n))
  where
    same : (k m : ℕ) → suc k + m ≡ k + suc m
    same k m = omega arith

pub positions_more : (n : ℕ) → positions_from 0 (n + 1) ≡ positions_from 0 n ++ n ∷ []
positions_more n = ap (positions_from 0) (same n) ∙ positions_next 0 n ∙ ap (λ k. positions_from 0 n ++ k ∷ []) (none n)
  where
    same : (k : ℕ) → k + 1 ≡ suc k
    same k = omega arith

    none : (k : ℕ) → 0 + k ≡ k
    none k = omega arith

-- One position more, with a mark or without one.
pub marked_more : (p : ℕ → Bool) (n : ℕ) → p n ≡ true → filter p (positions_from 0 (n + 1)) ≡ filter p (positions_from 0 n) ++ n ∷ []
marked_more p n e = ap (filter p) (positions_more n) ∙ filter-append p (positions_from 0 n) (n ∷ []) ∙ ap (λ b. filter p (positions_from 0 n) ++ cond b (n ∷ []) []) e

pub marked_none : (p : ℕ → Bool) (n : ℕ) → p n ≡ false → filter p (positions_from 0 (n + 1)) ≡ filter p (positions_from 0 n)
marked_none p n e =
    ap (filter p) (positions_more n) ∙ filter-append p (positions_from 0 n) (n ∷ []) ∙ ap (λ b. filter p (positions_from 0 n) ++ cond b (n ∷ []) []) e
    ∙ append-nil (filter p (positions_from 0 n))

-- ---- elements of a filter

contains_here : (x : ℕ) (xs : List ℕ) → Contains (x ∷ xs) x
contains_here x xs = (zero, omega arith, refl)

contains_next : (x y : ℕ) (xs : List ℕ) → Contains xs y → Contains (x ∷ xs) y
contains_next x y xs h = let l = h.1 in (suc h.0, omega arith, h.2)

contains_cases : (x y : ℕ) (xs : List ℕ) → Contains (x ∷ xs) y → (x ≡ y) ⊎ Contains xs y
contains_cases x y xs h = at h.0 h.1 h.2
  where
    at : (k : ℕ) → k < length (x ∷ xs) → get_or (x ∷ xs) k y ≡ y → (x ≡ y) ⊎ Contains xs y
    at zero l e = inl e
    at (suc k) l e = inr (k, omega arith, e)

filter_only : (p : ℕ → Bool) (xs : List ℕ) (y : ℕ) → Contains (filter p xs) y → p y ≡ true
filter_only p [] y h = let l = h.1 in absurd (omega arith)
filter_only p (x ∷ xs) y h = by (p x) refl h (filter_only p xs y)
  where
    by : (b : Bool) → p x ≡ b → Contains (cond b (x ∷ filter p xs) (filter p xs)) y → (Contains (filter p xs) y → p y ≡ true) → p y ≡ true
    by true e c rest = elim (contains_cases x y (filter p xs) c) as (λ _. p y ≡ true) [ inl same ↦ subst (λ z. p z ≡ true) same e | inr more ↦ rest more ]
    by false e c rest = rest c

filter_whole : (p : ℕ → Bool) (xs : List ℕ) (y : ℕ) → p y ≡ true → Contains xs y → Contains (filter p xs) y
filter_whole p [] y e h = let l = h.1 in absurd (omega arith)
filter_whole p (x ∷ xs) y e h = by (p x) refl (contains_cases x y xs h) (filter_whole p xs y e)
  where
    by : (b : Bool) → p x ≡ b → (x ≡ y) ⊎ Contains xs y → (Contains xs y → Contains (filter p xs) y) → Contains (cond b (x ∷ filter p xs) (filter p xs)) y
    by true f c rest = elim c as (λ _. Contains (x ∷ filter p xs) y) [
      | inl same ↦ subst (λ z. Contains (x ∷ filter p xs) z) same (contains_here x (filter p xs))
      | inr more ↦ contains_next x y (filter p xs) (rest more)
    ]
    by false f c rest = elim c as (λ _. Contains (filter p xs) y) [
      | inl same ↦ let clash : false ≡ true = sym f ∙ subst (λ z. p z ≡ true) (sym same) e in cc
      | inr more ↦ rest more
    ]

positions_contain : (first n y : ℕ) → first ≤ y → y < first + n → Contains (positions_from first n) y
positions_contain first zero y a b = absurd (omega arith)
positions_contain first (suc n) y a b = elim (at_or_past first y a) as (λ _. Contains (positions_from first (suc n)) y) [
  | inl same ↦ subst (λ z. Contains (positions_from first (suc n)) z) same (contains_here first (positions_from (suc first) n))
  | inr past ↦ contains_next first y (positions_from (suc first) n) (positions_contain (suc first) n y past (moved first n y b))
]
  where
    at_or_past : (m k : ℕ) → m ≤ k → (m ≡ k) ⊎ (suc m ≤ k)
    at_or_past m k l = grind arith

    moved : (m i k : ℕ) → k < m + suc i → k < suc m + i
    moved m i k l = omega arith

-- ---- rising lists

abbrev Rises : ℕ → List ℕ → Type 0
Rises m [] = Unit
Rises m (x ∷ xs) = (m ≤ x) × Rises (suc x) xs

rises_lower : (m : ℕ) (xs : List ℕ) → Rises (suc m) xs → Rises m xs
rises_lower m [] h = tt
rises_lower m (x ∷ xs) h = (let l = h.0 in omega arith, h.1)

rises_filter : (p : ℕ → Bool) (first n : ℕ) → Rises first (filter p (positions_from first n))
rises_filter p first zero = tt
rises_filter p first (suc n) = by (p first) (rises_filter p (suc first) n)
  where
    by : (b : Bool) → Rises (suc first) (filter p (positions_from (suc first) n)) →
        Rises first (cond b (first ∷ filter p (positions_from (suc first) n)) (filter p (positions_from (suc first) n)))
    by true h = (omega arith, h)
    by false h = rises_lower first (filter p (positions_from (suc first) n)) h

rises_step : (m : ℕ) (xs : List ℕ) → Rises m xs → (k : ℕ) → suc k < length xs → get_or xs k 0 < get_or xs (suc k) 0
rises_step m [] h k l = absurd (omega arith)
rises_step m (x ∷ []) h k l = absurd (omega arith)
rises_step m (x ∷ y ∷ ys) h zero l = let a = h.1.0 in omega arith
rises_step m (x ∷ y ∷ ys) h (suc k) l = rises_step (suc x) (y ∷ ys) h.1 k (omega arith)

rises_strictly : (m : ℕ) (xs : List ℕ) → Rises m xs → IsStrictlyIncreasing xs
rises_strictly m xs h = λ k l. subst (λ i. get_or xs k 0 < get_or xs i 0) (same k) (rises_step m xs h k (subst (λ i. i < length xs) (sym (same k)) l))
  where
    same : (k : ℕ) → suc k ≡ k + 1
    same k = omega arith

-- The positions of marks list the set for which the marks stand.
pub list_of_marks : (count : ℕ) (A : ℕ → Type 0) (marks : List Bool) (members : List ℕ) → members ≡ filter (mark_at marks) (positions_from 0 (length marks)) →
    MarksSet count A marks → IsListOf A members
list_of_marks count A marks members is set = subst (IsListOf A) (sym is) (record {
  ascending = rises_strictly 0 (filter (mark_at marks) (positions_from 0 (length marks))) (rises_filter (mark_at marks) 0 (length marks));
  only = λ y h. set.only y (filter_only (mark_at marks) (positions_from 0 (length marks)) y h);
  whole = λ y a.
      let m = set.whole y a in
      let l = in_marks marks y m in
      filter_whole (mark_at marks) (positions_from 0 (length marks)) y m (positions_contain 0 (length marks) y (omega arith) (omega arith));
})

-- A filter by another test that says the same up to a bound.
pub filter_same : (p q : ℕ → Bool) (first n : ℕ) → ((y : ℕ) → y < first + n → p y ≡ q y) → filter p (positions_from first n) ≡ filter q (positions_from first n)
filter_same p q first zero h = refl
filter_same p q first (suc n) h =
    ap (λ b. cond b (first ∷ filter p (positions_from (suc first) n)) (filter p (positions_from (suc first) n))) (h first (omega arith))
    ∙ ap (λ xs. cond (q first) (first ∷ xs) xs) (filter_same p q (suc first) n (λ y l. h y (moved first n y l)))
  where
    moved : (m i k : ℕ) → k < suc m + i → k < m + suc i
    moved m i k l = omega arith

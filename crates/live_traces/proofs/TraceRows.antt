-- Filtered lists.
use Rattle.std.proofs.Common.{◌≡◌, ◌+◌, List, [], ◌∷◌, ◌++◌, ◌∙◌, Bool, true, false, not, refl, ap, arith, length, filter, if◌then◌else◌}
use Rattle.span_types.specs.declared.ids.TraceId.{TraceId}
use Rattle.span_types.specs.declared.spans.Row.{Row}
use Rattle.rows_by_trace.specs.Traces.{is_of_trace, rows_of_trace}

pub filter_append : {X : Type 0} (p : X → Bool) (xs ys : List X) → filter p (xs ++ ys) ≡ filter p xs ++ filter p ys
filter_append p [] ys = refl
filter_append p (x ∷ xs) ys = by_test (p x) (filter_append p xs ys)
  where
    by_test : (t : Bool) → filter p (xs ++ ys) ≡ filter p xs ++ filter p ys →
        (if t then x ∷ filter p (xs ++ ys) else filter p (xs ++ ys)) ≡ (if t then x ∷ filter p xs else filter p xs) ++ filter p ys
    by_test true h = ap (λ zs. x ∷ zs) h
    by_test false h = h

pub of_trace-append : (trace : TraceId) (xs ys : List Row) → rows_of_trace trace (xs ++ ys) ≡ rows_of_trace trace xs ++ rows_of_trace trace ys
of_trace-append trace xs ys = filter_append (is_of_trace trace) xs ys

-- what goes and what stays are all
pub both_parts : {X : Type 0} (p : X → Bool) (xs : List X) → length (filter p xs) + length (filter (λ x. not (p x)) xs) ≡ length xs
both_parts p [] = refl
both_parts p (x ∷ xs) = by_test (p x) (both_parts p xs)
  where
    by_test : (t : Bool) → length (filter p xs) + length (filter (λ x. not (p x)) xs) ≡ length xs →
        length (if t then x ∷ filter p xs else filter p xs) + length (if not t then x ∷ filter (λ x. not (p x)) xs else filter (λ x. not (p x)) xs) ≡ length (x ∷ xs)
    by_test true h = omega (arith, h)
    by_test false h = omega (arith, h)

-- tests that answer alike
pub filter_same : {X : Type 0} (p q : X → Bool) (xs : List X) → ((x : X) → p x ≡ q x) → filter p xs ≡ filter q xs
filter_same p q [] h = refl
filter_same p q (x ∷ xs) h = by_test (p x) (q x) (h x) (filter_same p q xs h)
  where
    by_test : (s t : Bool) → s ≡ t → filter p xs ≡ filter q xs → (if s then x ∷ filter p xs else filter p xs) ≡ (if t then x ∷ filter q xs else filter q xs)
    by_test s t e ih = ap (λ b. if b then x ∷ filter p xs else filter p xs) e ∙ ap (λ ys. if t then x ∷ ys else ys) ih

-- The last of spans that end with a run, and what holds of two lists.
use Rattle.std.proofs.Common.{◌≡◌, ℕ, suc, ◌+◌, ◌-◌, List, [], ◌∷◌, ◌++◌, length, Some, refl, ap, ◌∙◌, arith}
use Rattle.std.specs.Prelude.{slice_get}
use Rattle.std.specs.List.{AllByRecursion}
use Rattle.std.proofs.lemmas.List.{length-append}
use Rattle.span_types.specs.declared.spans.Span.{Span}
use Rattle.span_runs.proofs.RunLaws.{last_item}
use Rattle.head_log.specs.Scanning.{last_of}

last_get : (x : Span) (xs : List Span) → slice_get (x ∷ xs) (length xs) ≡ Some (last_item x xs)
last_get x [] = refl
last_get x (y ∷ ys) = last_get y ys

last_after : (before : List Span) (x : Span) (xs : List Span) → slice_get (before ++ x ∷ xs) (length before + length xs) ≡ Some (last_item x xs)
last_after [] x xs = let e : 0 + length xs ≡ length xs = omega arith in rw e (last_get x xs)
last_after (b ∷ before) x xs =
    let e : length (b ∷ before) + length xs ≡ suc (length before + length xs) = omega arith in
    rw e (last_after before x xs)

pub last_of-run : (before : List Span) (x : Span) (xs : List Span) → last_of (before ++ x ∷ xs) ≡ Some (last_item x xs)
last_of-run before x xs =
    let e : length (before ++ x ∷ xs) - 1 ≡ length before + length xs = omega (arith, length-append before (x ∷ xs)) in
    ap (λ (k : ℕ). slice_get (before ++ x ∷ xs) k) e ∙ last_after before x xs

pub all_join : {A : Type 0} (P : A → Type 0) (xs ys : List A) → AllByRecursion P xs → AllByRecursion P ys → AllByRecursion P (xs ++ ys)
all_join P [] ys a b = b
all_join P (x ∷ xs) ys a b = (a.0, all_join P xs ys a.1 b)

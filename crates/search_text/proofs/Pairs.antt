-- Pairs of two lists, one for one.
use Rattle.std.proofs.Common.{◌≡◌, ◌∙◌, ℕ, ◌+◌, ◌<◌, min, List, [], ◌∷◌, ◌++◌, length, get_or, take, sym, ap, ap₂, arith}
use Rattle.std.specs.List.{zip}
use Rattle.std.proofs.lemmas.List.{take_more, take_all}
use Rattle.std.proofs.lemmas.Slice.Zip.{get_or-zip, length-zip}

pub zip_more : {A B : Type 0} (xs : List A) (ys : List B) (i : ℕ) (x : A) (y : B) → i < length xs → i < length ys → x ≡ get_or xs i x → y ≡ get_or ys i y
    → take (i + 1) (zip xs ys) ≡ take i (zip xs ys) ++ (x, y) ∷ []
zip_more {A} {B} xs ys i x y in_xs in_ys is_x is_y =
    take_more (zip xs ys) i (x, y) (omega (arith, length-zip xs ys))
    ∙ ap (λ (p : A × B). take i (zip xs ys) ++ p ∷ []) (get_or-zip xs ys i (x, y) in_xs in_ys ∙ ap₂ (λ (a : A) (b : B). (a, b)) (sym is_x) (sym is_y))

pub zip_whole : {A B : Type 0} (xs : List A) (ys : List B) (n : ℕ) → n ≡ min (length xs) (length ys) → take n (zip xs ys) ≡ zip xs ys
zip_whole xs ys n is = take_all n (zip xs ys) (omega (arith, length-zip xs ys))

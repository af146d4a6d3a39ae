use Rattle.std.proofs.Common.{◌-◌, ◌≡◌, ◌+◌, length, take, drop, ℕ, zero, suc, List, [], ◌∷◌, sym, ◌∙◌, ap, arith, length-drop, refl, min}
use Rattle.std.proofs.lemmas.List.{length-take-le}
use Rattle.flusher.proofs.pieces.piece.Goals as goal

short : (n m : ℕ) (xs : List ℕ) → n ≡ min (length xs) m → take n xs ≡ take m xs
short zero zero xs h = refl
short zero (suc m) [] h = refl
short zero (suc m) (x ∷ xs) h = absurd (omega (arith, h))
short (suc n) zero xs h = absurd (omega (arith, h))
short (suc n) (suc m) [] h = absurd (omega (arith, h))
short (suc n) (suc m) (x ∷ xs) h = ap (λ ys. x ∷ ys) (short n m xs (omega (arith, h)))

short_rest : (n m : ℕ) (xs : List ℕ) → n ≡ min (length xs) m → drop n xs ≡ drop m xs
short_rest zero zero xs h = refl
short_rest zero (suc m) [] h = refl
short_rest zero (suc m) (x ∷ xs) h = absurd (omega (arith, h))
short_rest (suc n) zero xs h = absurd (omega (arith, h))
short_rest (suc n) (suc m) [] h = absurd (omega (arith, h))
short_rest (suc n) (suc m) (x ∷ xs) h = short_rest n m xs (omega (arith, h))

nothing_left : (n : ℕ) → drop {A = ℕ} n [] ≡ []
nothing_left zero = refl
nothing_left (suc n) = refl

drop_more : (w n : ℕ) (xs : List ℕ) → drop (w + n) xs ≡ drop n (drop w xs)
drop_more zero n xs = ap (λ (m : ℕ). drop m xs) (plus n)
  where
    plus : (n : ℕ) → 0 + n ≡ n
    plus n = omega arith
drop_more (suc w) n [] = nothing_left (suc w + n) ∙ sym (nothing_left n)
drop_more (suc w) n (x ∷ xs) = ap (λ (m : ℕ). drop m (x ∷ xs)) (plus w n) ∙ drop_more w n xs
  where
    plus : (w n : ℕ) → suc w + n ≡ suc (w + n)
    plus w n = omega arith

pub returns : goal.returns
returns c =
    let xs : List ℕ = c.args.bytes.now in
    let ys : List ℕ = drop c.args.from xs in
    let n : ℕ = c.args.from + c.min-size.result - c.args.from in
    let len : length ys ≡ length xs - c.args.from = length-drop c.args.from xs in
    let size : n ≡ min (length ys) 65536 = omega (arith, c.min-size.ensures, len) in
    let part : length (take n ys) ≡ n = length-take-le n ys (omega (arith, size)) in
    record {
      bytes = short n 65536 ys size;
      end = omega (arith, part, size, len, c.requires);
      some = λ h. omega (arith, h, part, size, len);
      part = ap (λ m. take m ys) (sym part);
      rest = ap (λ (m : ℕ). drop (c.args.from + m) xs) part ∙ drop_more c.args.from n xs ∙ short_rest n 65536 ys size;
    }

-- Products of signed numbers.
use Rattle.std.proofs.Common.{◌≡◌, ℕ, ℤ, pos, negsuc, zero, suc, ◌*◌, ◌<◌, sym, ap, arith, ◌∙◌, refl}
use Rattle.std.specs.Prelude.{◌*ℤ◌, neg_ℤ}
use Rattle.std.proofs.lemmas.Int.{ints}
use Rattle.std.proofs.Math.Nat.{mul_assoc}
use lib.IntN.{neg_ℤ-neg_ℤ}
use native.Mathlib.Nat.{mul-pos, eq_of_mul-eq-mul_right}

neg_product : (z : ℤ) (n : ℕ) → neg_ℤ z *ℤ pos n ≡ neg_ℤ (z *ℤ pos n)
neg_product (pos zero) n = omega (arith, ints)
neg_product (pos (suc m)) n = refl
neg_product (negsuc m) n = sym (neg_ℤ-neg_ℤ (pos (suc m * n)))

pub product_assoc : (z : ℤ) (m n : ℕ) → (z *ℤ pos m) *ℤ pos n ≡ z *ℤ pos (m * n)
product_assoc (pos a) m n = ap pos (mul_assoc a m n)
product_assoc (negsuc a) m n = neg_product (pos (suc a * m)) n ∙ ap (λ k. neg_ℤ (pos k)) (mul_assoc (suc a) m n)

pub cancel : (x y : ℤ) (k : ℕ) → 0 < k → x *ℤ pos k ≡ y *ℤ pos k → x ≡ y
cancel (pos a) (pos b) k up e = ap pos (eq_of_mul-eq-mul_right k up a b (omega (arith, ints)))
cancel (pos a) (negsuc b) k up e =
    let some : 0 < suc b * k = mul-pos (omega arith) up in absurd (omega (arith, ints))
cancel (negsuc a) (pos b) k up e =
    let some : 0 < suc a * k = mul-pos (omega arith) up in absurd (omega (arith, ints))
cancel (negsuc a) (negsuc b) k up e =
    let same : suc a ≡ suc b = eq_of_mul-eq-mul_right k up (suc a) (suc b) (omega (arith, ints)) in
    omega (arith, ints)

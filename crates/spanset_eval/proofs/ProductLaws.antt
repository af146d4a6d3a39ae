-- Products of signed numbers.
use Rattle.std.proofs.Common.{◌≡◌, ℕ, ℤ, pos, negsuc, zero, suc, ◌*◌, ◌<◌, sym, ap, arith, ◌∙◌, refl}
use Rattle.std.specs.Prelude.{◌*ℤ◌, ◌<ℤ◌}
use Rattle.std.specs.Cmp.{int_cmp_is, int_ranks}
use Rattle.std.specs.Ordering.{int_cmp, MatchOrdering}
use Rattle.std.specs.declared.cmp.Ordering.{Ordering}
use Rattle.std.specs.declared.cmp.Ordering.TheVariants.{Less, Equal, Greater}
use Rattle.std.proofs.lemmas.Int.{ints}
use Rattle.std.proofs.Math.Nat.{mul_assoc, mul_comm, mul-lt-mul_of_pos_right, mul-pos}
use lib.IntN.{neg_ℤ-neg_ℤ}
use Rattle.std.specs.Prelude.{neg_ℤ}

neg_product : (z : ℤ) (n : ℕ) → neg_ℤ z *ℤ pos n ≡ neg_ℤ (z *ℤ pos n)
neg_product (pos zero) n = omega (arith, ints)
neg_product (pos (suc m)) n = refl
neg_product (negsuc m) n = sym (neg_ℤ-neg_ℤ (pos (suc m * n)))

pub product_assoc : (z : ℤ) (m n : ℕ) → (z *ℤ pos m) *ℤ pos n ≡ z *ℤ pos (m * n)
product_assoc (pos a) m n = ap pos (mul_assoc a m n)
product_assoc (negsuc a) m n = neg_product (pos (suc a * m)) n ∙ ap (λ k. neg_ℤ (pos k)) (mul_assoc (suc a) m n)

pub product_swap : (z : ℤ) (m n : ℕ) → (z *ℤ pos m) *ℤ pos n ≡ (z *ℤ pos n) *ℤ pos m
product_swap z m n = product_assoc z m n ∙ ap (λ k. z *ℤ pos k) (mul_comm m n) ∙ sym (product_assoc z n m)

pub times_less : (x y : ℤ) (k : ℕ) → 0 < k → x <ℤ y → (x *ℤ pos k) <ℤ (y *ℤ pos k)
times_less (pos a) (pos b) k up l =
    let h : a * k < b * k = mul-lt-mul_of_pos_right (omega (arith, ints)) up in omega (arith, ints)
times_less (pos a) (negsuc b) k up l = absurd (omega (arith, ints))
times_less (negsuc a) (pos b) k up l =
    let some : 0 < suc a * k = mul-pos (omega arith) up in omega (arith, ints)
times_less (negsuc a) (negsuc b) k up l =
    let h : suc b * k < suc a * k = mul-lt-mul_of_pos_right (omega (arith, ints)) up in omega (arith, ints)

-- A comparison stays where both sides are multiplied.
pub scaled : (x y : ℤ) (k : ℕ) → 0 < k → int_cmp (x *ℤ pos k) (y *ℤ pos k) ≡ int_cmp x y
scaled x y k up = sym (int_cmp_is (x *ℤ pos k) (y *ℤ pos k) (int_cmp x y) (grows (int_cmp x y) (int_ranks x y)))
  where
    grows : (o : Ordering) → MatchOrdering o (x <ℤ y) (x ≡ y) (y <ℤ x) →
        MatchOrdering o ((x *ℤ pos k) <ℤ (y *ℤ pos k)) (x *ℤ pos k ≡ y *ℤ pos k) ((y *ℤ pos k) <ℤ (x *ℤ pos k))
    grows Less l = times_less x y k up l
    grows Equal e = ap (λ z. z *ℤ pos k) e
    grows Greater l = times_less y x k up l

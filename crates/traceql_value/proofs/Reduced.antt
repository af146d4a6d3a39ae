-- A fraction and its lowest terms.
use Rattle.std.proofs.Common.{◌≡◌, ℕ, ℤ, pos, negsuc, suc, ◌*◌, ◌/◌, ◌<◌, sym, subst, ap, arith, ◌∙◌}
use Rattle.std.specs.Prelude.{◌*ℤ◌, ◌+ℤ◌, neg_ℤ, unsigned_abs, int_div, int_rem}
use Rattle.std.specs.Int.{◌∣◌, IsGcd}
use Rattle.std.proofs.lemmas.Int.{quot-rem, unsigned_abs-mul}
use Rattle.std.proofs.lemmas.Nat.Gcd.{mod-eq-zero_of_dvd}
use Rattle.std.proofs.Math.Nat.{mul_comm, mul_assoc}
use native.Mathlib.Nat.{mul-div_cancel, div-mul_cancel, pos_of_dvd_of_pos, eq_of_mul-eq-mul_right}
use lib.IntN.{+ℤ_idr}
use Rattle.traceql_value.specs.Fractions.{Fraction, AreCoprime, IsRatio, IsQuotient}
use Rattle.traceql_value.proofs.Divisors.{one_form, AreCoprime-from_gcd}
use Rattle.traceql_value.proofs.Products.{product_assoc, cancel}

-- p / q is up / down, in lowest terms
pub record Reduces (p : ℤ) (q : ℕ) (up : ℤ) (down : ℕ) : Type 0 where
  pub common : ℕ
  pub some : 0 < common
  pub upper : up *ℤ pos common ≡ p
  pub lower : down * common ≡ q
  pub lowest : AreCoprime (unsigned_abs up) down
  pub above : 0 < q

no_rest : (p : ℤ) (g : ℕ) → g ∣ unsigned_abs p → int_rem p (pos g) ≡ pos 0
no_rest (pos a) g d = ap pos (mod-eq-zero_of_dvd g d)
no_rest (negsuc a) g d = ap (λ n. neg_ℤ (pos n)) (mod-eq-zero_of_dvd g d)

quotient : (p : ℤ) (g : ℕ) → g ∣ unsigned_abs p → int_div p (pos g) *ℤ pos g ≡ p
quotient p g d =
    sym (+ℤ_idr (int_div p (pos g) *ℤ pos g)) ∙ ap (λ z. int_div p (pos g) *ℤ pos g +ℤ z) (sym (no_rest p g d)) ∙ quot-rem p (pos g)

pub Reduces-from_gcd : (p : ℤ) (q g : ℕ) → 0 < q → IsGcd (unsigned_abs p) q g → Reduces p q (int_div p (pos g)) (q / g)
Reduces-from_gcd p q g up h =
    let some : 0 < g = pos_of_dvd_of_pos h.1 up in
    let whole : int_div p (pos g) *ℤ pos g ≡ p = quotient p g h.0 in
    let size : unsigned_abs (int_div p (pos g)) * g ≡ unsigned_abs p = sym (unsigned_abs-mul (int_div p (pos g)) (pos g)) ∙ ap unsigned_abs whole in
    let part : unsigned_abs p / g ≡ unsigned_abs (int_div p (pos g)) = ap (λ n. n / g) (sym size) ∙ mul-div_cancel (unsigned_abs (int_div p (pos g))) some in
    record {
      common = g;
      some = some;
      upper = whole;
      lower = div-mul_cancel g h.1;
      lowest = subst (λ n. AreCoprime n (q / g)) part (AreCoprime-from_gcd (unsigned_abs p) q g some h);
      above = up;
    }

scaled : (p : ℤ) (q : ℕ) (up : ℤ) (down : ℕ) (h : Reduces p q up down) → up *ℤ pos q ≡ p *ℤ pos down
scaled p q up down h =
    ap (λ n. up *ℤ pos n) (sym h.lower ∙ mul_comm down h.common)
    ∙ sym (product_assoc up h.common down) ∙ ap (λ z. z *ℤ pos down) h.upper

pub Reduces-stands : (p : ℤ) (q : ℕ) (up : ℤ) (down : ℕ) (h : Reduces p q up down) → IsQuotient p (pos q) (record { numerator = up; denominator = down })
Reduces-stands p q up down h = scaled p q up down h

-- a ratio that stands for a fraction is its lowest terms
pub Reduces-alone : (p : ℤ) (q : ℕ) (up : ℤ) (down : ℕ) (h : Reduces p q up down) (r : Fraction) → IsRatio r → IsQuotient p (pos q) r → (r.numerator ≡ up) × (r.denominator ≡ down)
Reduces-alone p q up down h r is e =
    let size : unsigned_abs r.numerator * q ≡ unsigned_abs p * r.denominator =
    sym (unsigned_abs-mul r.numerator (pos q)) ∙ ap unsigned_abs e ∙ unsigned_abs-mul p (pos r.denominator) in
    let over : unsigned_abs up * h.common ≡ unsigned_abs p = sym (unsigned_abs-mul up (pos h.common)) ∙ ap unsigned_abs h.upper in
    let left : unsigned_abs r.numerator * down * h.common ≡ unsigned_abs r.numerator * q =
    mul_assoc (unsigned_abs r.numerator) down h.common ∙ ap (λ n. unsigned_abs r.numerator * n) h.lower in
    let right : unsigned_abs up * r.denominator * h.common ≡ unsigned_abs p * r.denominator =
    mul_assoc (unsigned_abs up) r.denominator h.common ∙ ap (λ n. unsigned_abs up * n) (mul_comm r.denominator h.common)
    ∙ sym (mul_assoc (unsigned_abs up) h.common r.denominator) ∙ ap (λ n. n * r.denominator) over in
    let crossed : unsigned_abs r.numerator * down ≡ unsigned_abs up * r.denominator =
    eq_of_mul-eq-mul_right h.common h.some (unsigned_abs r.numerator * down) (unsigned_abs up * r.denominator) (left ∙ size ∙ sym right) in
    let same = one_form (unsigned_abs r.numerator) r.denominator (unsigned_abs up) down is.lowest h.lowest is.above crossed in
    let line : r.numerator *ℤ pos q ≡ up *ℤ pos q = e ∙ ap (λ n. p *ℤ pos n) same.1 ∙ sym (scaled p q up down h) in
    (cancel r.numerator up q h.above line, same.1)

times_one : (z : ℤ) → z *ℤ pos 1 ≡ z
times_one (pos a) = let e : a * 1 ≡ a = omega arith in ap pos e
times_one (negsuc a) = let e : suc a * 1 ≡ suc a = omega arith in ap (λ n. neg_ℤ (pos n)) e

-- what is in lowest terms is reduced
pub Reduces-self : (z : ℤ) (d : ℕ) → 0 < d → AreCoprime (unsigned_abs z) d → Reduces z d z d
Reduces-self z d up h = record {
  common = 1;
  some = omega arith;
  upper = times_one z;
  lower = omega arith;
  lowest = h;
  above = up;
}

same_parts : (a b : Fraction) → a.numerator ≡ b.numerator → a.denominator ≡ b.denominator → a ≡ b
same_parts a b e f =
    let left : a ≡ record { numerator = b.numerator; denominator = a.denominator } = ap (λ (n : ℤ). record { numerator = n; denominator = a.denominator }) e in
    let right : record { numerator = b.numerator; denominator = a.denominator } ≡ b = ap (λ (d : ℕ). record { numerator = b.numerator; denominator = d }) f in
    left ∙ right

-- equal fractions are one ratio
pub one_ratio_of : (a b : Fraction) → IsRatio a → IsRatio b → a.numerator *ℤ pos b.denominator ≡ b.numerator *ℤ pos a.denominator → a ≡ b
one_ratio_of a b is other e =
    let same = Reduces-alone b.numerator b.denominator b.numerator b.denominator (Reduces-self b.numerator b.denominator other.above other.lowest) a is e in
    same_parts a b same.0 same.1

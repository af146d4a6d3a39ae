-- A rate in lowest terms.
use Rattle.std.proofs.Common.{◌≡◌, ℕ, zero, suc, ◌*◌, ◌/◌, ◌<◌, ◌≤◌, ◌^◌, sym, subst, ap, arith, ◌∙◌}
use Rattle.std.specs.Int.{IsGcd}
use Rattle.std.proofs.Math.Nat.{mul_assoc, mul_comm, le-mul_of_pos_right}
use native.Mathlib.Nat.{div-mul_cancel, pos_of_dvd_of_pos}
use Rattle.traceql_value.proofs.Divisors.{AreCoprime-from_gcd}
use Rattle.spanset_eval.specs.declared.series.Count.{Count}
use Rattle.traceql_metrics.specs.Series.{IsRate}

pub some_common : (m step g : ℕ) → 0 < step → IsGcd m step g → 0 < g
some_common m step g up h = pos_of_dvd_of_pos h.1 up

-- what is left of a step is no greater
pub part_below : (m step g b : ℕ) → 0 < step → IsGcd m step g → step < b → step / g < b
part_below m step g b up h less =
    let whole : step / g * g ≡ step = div-mul_cancel g h.1 in
    let le : step / g ≤ step / g * g = le-mul_of_pos_right (step / g) (some_common m step g up h) in
    omega (arith, whole, le, less)

factor_above : (m n q : ℕ) → m * n ≡ q → 0 < q → 0 < m
factor_above zero n q e up = absurd (omega (arith, e, up))
factor_above (suc m) n q e up = omega arith

pub in_lowest : (step n m g : ℕ) → 0 < step → m ≡ n * 1000000000 → IsGcd m step g → IsRate step n (record { numerator = m / g; denominator = step / g })
in_lowest step n m g up e h =
    let left : m / g * g ≡ m = div-mul_cancel g h.0 in
    let right : step / g * g ≡ step = div-mul_cancel g h.1 in
    record {
      equal =
          ap (λ k. m / g * k) (sym right ∙ mul_comm (step / g) g) ∙ sym (mul_assoc (m / g) g (step / g)) ∙ ap (λ k. k * (step / g)) (left ∙ e);
      above = factor_above (step / g) g step right up;
      lowest = AreCoprime-from_gcd m step g (some_common m step g up h) h;
    }

-- the same of a step and a number that are known by other names
pub rate_in_lowest : (step d n m g : ℕ) → 0 < step → d ≡ step → m ≡ n * 1000000000 → IsGcd m d g → IsRate step n (record { numerator = m / g; denominator = d / g })
rate_in_lowest step d n m g up e f h =
    subst (λ s. IsRate s n (record { numerator = m / g; denominator = d / g })) e (in_lowest d n m g (subst (λ s. 0 < s) (sym e) up) f h)

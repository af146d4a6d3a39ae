use Rattle.std.proofs.Common.{zero, suc, ℤ, pos, ◌<◌, ◌^◌, ◌≡◌, ℕ, ◌*◌, ◌≤◌, ◌/◌, w64, FitsSigned, to_z, of_z, arith, ap, sym, subst, ◌∙◌}
use Rattle.std.specs.Prelude.{unsigned_abs, int_div, ◌<ℤ◌}
use Rattle.std.specs.Int.{w128, IsGcd}
use Rattle.std.proofs.lemmas.Int.{ints, to_z-of_z, to_z_pos, quot_fits}
use Rattle.std.proofs.lemmas.Nat.Gcd.{le_of_dvd}
use native.Mathlib.Nat.{pos_of_dvd_of_pos}
use Rattle.traceql_value.specs.Fractions.{IsRatio}
use Rattle.traceql_value.proofs.Reduced.{Reduces, Reduces-from_gcd, Reduces-stands, Reduces-alone}
use Rattle.traceql_value.proofs.ratio.Ratio.reduced.Goals as goal

reduced : (p : ℤ) (a q g : ℕ) → FitsSigned w128 p → a ≡ unsigned_abs (to_z w128 (of_z w128 p)) → 0 < q → IsGcd a q g → Reduces p q (int_div p (pos g)) (q / g)
reduced p a q g fits e up h = Reduces-from_gcd p q g up (subst (λ n. IsGcd n q g) (e ∙ ap unsigned_abs (to_z-of_z w128 p fits)) h)

factor_above : (m n q : ℕ) → m * n ≡ q → 0 < q → 0 < m
factor_above zero n q e up = absurd (omega arith)
factor_above (suc m) n q e up = omega arith

above_zero : (g : ℕ) → 0 < g → pos 0 <ℤ pos g
above_zero g h = omega (arith, ints)

quotient_fits : (p : ℤ) (g : ℕ) → FitsSigned w128 p → 0 < g → FitsSigned w128 (int_div p (pos g))
quotient_fits p g fits up = quot_fits w128 p (pos g) fits (above_zero g up)

divided : (p : ℤ) (g : ℕ) → FitsSigned w128 p → 0 < g → g < 2 ^ 127 → int_div (to_z w128 (of_z w128 p)) (to_z w128 g) ≡ int_div p (pos g)
divided p g fits up small = ap (λ z. int_div z (to_z w128 g)) (to_z-of_z w128 p fits) ∙ ap (λ z. int_div p z) (to_z_pos w128 g small)

code : (p : ℤ) (g : ℕ) → FitsSigned w128 p → 0 < g → g < 2 ^ 127 → to_z w128 (of_z w128 (int_div (to_z w128 (of_z w128 p)) (to_z w128 g))) ≡ int_div p (pos g)
code p g fits up small = ap (λ z. to_z w128 (of_z w128 z)) (divided p g fits up small) ∙ to_z-of_z w128 (int_div p (pos g)) (quotient_fits p g fits up)

small_divisor : (a q g : ℕ) → 0 < q → q < 2 ^ 127 → IsGcd a q g → g < 2 ^ 127
small_divisor a q g up below h = let le : g ≤ q = le_of_dvd up h.1 in omega arith

ratio_of : (p : ℤ) (q : ℕ) (up : ℤ) (down : ℕ) → Reduces p q up down → FitsSigned w64 up → down ≤ 9223372036854775807 → IsRatio (record { numerator = up; denominator = down })
ratio_of p q up down h fits le = record {
  signed = fits;
  above = factor_above down h.common q h.lower h.above;
  below = omega arith;
  lowest = h.lowest;
}

pub nonzero_div-down : goal.nonzero_div-down
nonzero_div-down c = pos_of_dvd_of_pos c.common_divisor-common.ensures.1 c.requires.above

pub returns-then-down-clause-nil : goal.returns-then-down-clause-nil
returns-then-down-clause-nil c = λ r is e.
    let h = reduced c.args.numerator _ c.args.denominator c.common_divisor-common.result c.ranges.numerator c.unsigned_abs.ensures.value c.requires.above c.common_divisor-common.ensures in
    let same = Reduces-alone _ _ _ _ h r is e in
    let below = is.below in
    omega arith

pub overflow_cast-common : goal.overflow_cast-common
overflow_cast-common c =
    let small = small_divisor _ _ _ c.requires.above c.requires.below c.common_divisor-common.ensures in
    record { sfits = small }

pub nonzero_div-numerator : goal.nonzero_div-numerator
nonzero_div-numerator c =
    let up = pos_of_dvd_of_pos c.common_divisor-common.ensures.1 c.requires.above in
    let small = small_divisor _ _ _ c.requires.above c.requires.below c.common_divisor-common.ensures in
    (up, subst (FitsSigned w128) (sym (divided _ _ c.ranges.numerator up small)) (quotient_fits _ _ c.ranges.numerator up))

pub returns-in_default-clause-nil : goal.returns-in_default-clause-nil
returns-in_default-clause-nil c = λ r is e.
    let up = pos_of_dvd_of_pos c.common_divisor-common.ensures.1 c.requires.above in
    let small = small_divisor _ _ _ c.requires.above c.requires.below c.common_divisor-common.ensures in
    let h = reduced c.args.numerator _ c.args.denominator c.common_divisor-common.result c.ranges.numerator c.unsigned_abs.ensures.value c.requires.above c.common_divisor-common.ensures in
    let same = Reduces-alone _ _ _ _ h r is e in
    c.in_default.ensures (subst (FitsSigned w64) (same.0 ∙ sym (code _ _ c.ranges.numerator up small)) is.signed)

pub invariant_of-result : goal.invariant_of-result
invariant_of-result c =
    let up = pos_of_dvd_of_pos c.common_divisor-common.ensures.1 c.requires.above in
    let small = small_divisor _ _ _ c.requires.above c.requires.below c.common_divisor-common.ensures in
    let h = reduced c.args.numerator _ c.args.denominator c.common_divisor-common.result c.ranges.numerator c.unsigned_abs.ensures.value c.requires.above c.common_divisor-common.ensures in
    let is = code _ _ c.ranges.numerator up small in
    let fits : FitsSigned w64 (int_div c.args.numerator (pos c.common_divisor-common.result)) = subst (FitsSigned w64) is c.in-Ok.ensures.0 in
    let same : to_z w64 (of_z w64 c.in-Ok.up) ≡ int_div c.args.numerator (pos c.common_divisor-common.result) =
    ap (λ z. to_z w64 (of_z w64 z)) (c.in-Ok.ensures.1 ∙ is) ∙ to_z-of_z w64 (int_div c.args.numerator (pos c.common_divisor-common.result)) fits in
    rw same (ratio_of _ _ _ _ h fits c.if-down.false)

pub returns-clause-value : goal.returns-clause-value
returns-clause-value c =
    let up = pos_of_dvd_of_pos c.common_divisor-common.ensures.1 c.requires.above in
    let small = small_divisor _ _ _ c.requires.above c.requires.below c.common_divisor-common.ensures in
    let h = reduced c.args.numerator _ c.args.denominator c.common_divisor-common.result c.ranges.numerator c.unsigned_abs.ensures.value c.requires.above c.common_divisor-common.ensures in
    let is = code _ _ c.ranges.numerator up small in
    let fits : FitsSigned w64 (int_div c.args.numerator (pos c.common_divisor-common.result)) = subst (FitsSigned w64) is c.in-Ok.ensures.0 in
    let same : to_z w64 (of_z w64 c.in-Ok.up) ≡ int_div c.args.numerator (pos c.common_divisor-common.result) =
    ap (λ z. to_z w64 (of_z w64 z)) (c.in-Ok.ensures.1 ∙ is) ∙ to_z-of_z w64 (int_div c.args.numerator (pos c.common_divisor-common.result)) fits in
    rw same (ratio_of _ _ _ _ h fits c.if-down.false, Reduces-stands _ _ _ _ h)

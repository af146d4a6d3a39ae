use Rattle.std.proofs.Common.{ℤ, ◌≡◌, w64, FitsSigned, sym, subst, arith}
use Rattle.std.proofs.lemmas.Int.{to_z-of_z}
use native.Mathlib.Nat.{eq-one_of_dvd-one}
use Rattle.traceql_value.specs.Fractions.{IsRatio}
use Rattle.traceql_value.proofs.ratio.Ratio.whole.Goals as goal

ratio : (z v : ℤ) → FitsSigned w64 v → z ≡ v → IsRatio (record { numerator = z; denominator = 1 })
ratio z v fits e = record {
  signed = subst (FitsSigned w64) (sym e) fits;
  above = omega arith;
  below = omega arith;
  lowest = λ d p q. eq-one_of_dvd-one q;
}

pub invariant_of-result : goal.invariant_of-result
invariant_of-result c = ratio _ _ c.ranges.value (to_z-of_z w64 c.args.value c.ranges.value)

pub returns-clause-ratio : goal.returns-clause-ratio
returns-clause-ratio c = ratio _ _ c.ranges.value (to_z-of_z w64 c.args.value c.ranges.value)

use Rattle.std.proofs.Common.{◌≡◌, ℕ, ℤ, pos, negsuc, zero, suc, w64, FitsSigned, to_z, of_z, sym, subst, ap, ◌∙◌, refl}
use Rattle.std.specs.Prelude.{neg_ℤ, unsigned_abs, ◌*ℤ◌}
use Rattle.std.proofs.lemmas.Int.{to_z-of_z}
use Rattle.traceql_value.specs.Fractions.{Fraction, IsRatio, NoneIsQuotient, AreCoprime}
use Rattle.traceql_value.proofs.Reduced.{Reduces-self, Reduces-alone}
use Rattle.traceql_value.proofs.ratio.Ratio.neg.Goals as goal

size : (z : ℤ) → unsigned_abs (neg_ℤ z) ≡ unsigned_abs z
size (pos zero) = refl
size (pos (suc n)) = refl
size (negsuc n) = refl

other_sign : (z y : ℤ) (d : ℕ) → IsRatio (record { numerator = z; denominator = d }) → FitsSigned w64 (neg_ℤ z) → y ≡ neg_ℤ z → IsRatio (record { numerator = y; denominator = d })
other_sign z y d is fits e = record {
  signed = subst (FitsSigned w64) (sym e) fits;
  above = is.above;
  below = is.below;
  lowest = subst (λ n. AreCoprime n d) (sym (ap unsigned_abs e ∙ size z)) is.lowest;
}

-- a number that is in lowest terms is so with the other sign
alone : (z : ℤ) (d : ℕ) → IsRatio (record { numerator = z; denominator = d }) → (FitsSigned w64 (neg_ℤ z) → ⊥) → NoneIsQuotient (neg_ℤ z) (pos d)
alone z d is out = λ r h e.
    let one = Reduces-self (neg_ℤ z) d is.above (subst (λ n. AreCoprime n d) (sym (size z)) is.lowest) in
    let same = Reduces-alone (neg_ℤ z) d (neg_ℤ z) d one r h e in
    out (subst (FitsSigned w64) same.0 h.signed)

code : (z n : ℤ) → FitsSigned w64 z → FitsSigned w64 (neg_ℤ (to_z w64 (of_z w64 z))) → n ≡ neg_ℤ (to_z w64 (of_z w64 z)) → to_z w64 (of_z w64 n) ≡ neg_ℤ z
code z n f g e = ap (λ x. to_z w64 (of_z w64 x)) e ∙ to_z-of_z w64 (neg_ℤ (to_z w64 (of_z w64 z))) g ∙ ap neg_ℤ (to_z-of_z w64 z f)

read : (z : ℤ) → FitsSigned w64 z → FitsSigned w64 (neg_ℤ (to_z w64 (of_z w64 z))) → FitsSigned w64 (neg_ℤ z)
read z f g = subst (λ x. FitsSigned w64 (neg_ℤ x)) (to_z-of_z w64 z f) g

written : (z : ℤ) → FitsSigned w64 z → FitsSigned w64 (neg_ℤ z) → FitsSigned w64 (neg_ℤ (to_z w64 (of_z w64 z)))
written z f g = subst (λ x. FitsSigned w64 (neg_ℤ x)) (sym (to_z-of_z w64 z f)) g

pub returns-in_err-numerator-clause-nil : goal.returns-in_err-numerator-clause-nil
returns-in_err-numerator-clause-nil c =
    let none = alone c.self.inside.numerator c.self.inside.denominator c.self.invariant
    (λ f. c.in_err-numerator.ensures (written c.self.inside.numerator c.self.invariant.signed f)) in
    rw c.from_residual.ensures (subst (λ (f : Fraction). NoneIsQuotient (neg_ℤ f.numerator) (pos f.denominator)) c.self.view_is none)

pub invariant_of-result : goal.invariant_of-result
invariant_of-result c =
    let h = c.in_ok-numerator.ensures in
    other_sign c.self.inside.numerator _ c.self.inside.denominator c.self.invariant
    (read c.self.inside.numerator c.self.invariant.signed h.0)
    (code c.self.inside.numerator c.in_ok-numerator.numerator c.self.invariant.signed h.0 h.1)

pub returns-clause-value : goal.returns-clause-value
returns-clause-value c =
    let h = c.in_ok-numerator.ensures in
    let is = code c.self.inside.numerator c.in_ok-numerator.numerator c.self.invariant.signed h.0 h.1 in (
      other_sign c.self.inside.numerator _ c.self.inside.denominator c.self.invariant (read c.self.inside.numerator c.self.invariant.signed h.0) is,
      subst (λ (f : Fraction). to_z w64 (of_z w64 c.in_ok-numerator.numerator) *ℤ pos f.denominator ≡ neg_ℤ f.numerator *ℤ pos c.self.inside.denominator)
          c.self.view_is (ap (λ z. z *ℤ pos c.self.inside.denominator) is),
    )

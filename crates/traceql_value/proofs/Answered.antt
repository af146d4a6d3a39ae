-- The same answer for equal numbers.
use Rattle.std.proofs.Common.{◌≡◌, ℤ, Option, subst, IfNone}
use Rattle.traceql_value.specs.Fractions.{Fraction, NoneIsQuotient}

pub IfNone-along : (o : Option Fraction) (p p' q q' : ℤ) → p ≡ p' → q ≡ q' → IfNone o (NoneIsQuotient p q) → IfNone o (NoneIsQuotient p' q')
IfNone-along o p p' q q' e f h =
    subst (λ z. IfNone o (NoneIsQuotient z q')) e (subst (λ z. IfNone o (NoneIsQuotient p z)) f h)

-- Fractions of whole numbers, and which of them a ratio can hold.
use Rattle.std.specs.Prelude.{◌≡◌, ◌≢◌, ℕ, ℤ, pos, ◌+ℤ◌, ◌-ℤ◌, ◌*ℤ◌, ◌<ℤ◌, ◌≤ℤ◌, ◌*◌, ◌<◌, ◌^◌, unsigned_abs, FitsSigned}
use Rattle.std.specs.Int.{w64, ◌∣◌, int_pow}
use Rattle.std.specs.Ordering.{MatchOrdering}
use Rattle.std.specs.declared.cmp.Ordering.{Ordering}

pub record Fraction : Type 0 where
  pub numerator : ℤ
  pub denominator : ℕ

-- 1 alone divides both
abbrev pub AreCoprime : ℕ → ℕ → Type 0
AreCoprime m n = (d : ℕ) → d ∣ m → d ∣ n → d ≡ 1

-- The fraction is in lowest terms and within the bounds: a numerator of 64 signed bits, a denominator from 1 to 2^63 - 1.
pub record IsRatio (r : Fraction) : Type 0 where
  pub signed : FitsSigned w64 r.numerator
  pub above : 0 < r.denominator
  pub below : r.denominator < 2 ^ 63
  pub lowest : AreCoprime (unsigned_abs r.numerator) r.denominator

-- the fraction equals p / q, where q isn't 0
abbrev pub IsQuotient : ℤ → ℤ → Fraction → Type 0
IsQuotient p q r = r.numerator *ℤ q ≡ p *ℤ pos r.denominator

-- a ratio that equals p / q
abbrev pub IsRatioOf : ℤ → ℤ → Fraction → Type 0
IsRatioOf p q r = IsRatio r × IsQuotient p q r

-- no ratio equals p / q
abbrev pub NoneIsQuotient : ℤ → ℤ → Type 0
NoneIsQuotient p q = (r : Fraction) → IsRatio r → IsQuotient p q r → ⊥

abbrev pub whole_fraction : ℤ → Fraction
whole_fraction n = record { numerator = n; denominator = 1 }

abbrev pub IsWhole : Fraction → Type 0
IsWhole r = r.denominator ≡ 1

-- both are whole, and the second isn't 0
abbrev pub HaveRemainder : Fraction → Fraction → Type 0
HaveRemainder a b = IsWhole a × IsWhole b × (b.numerator ≢ pos 0)

-- both are whole, and the second isn't negative
abbrev pub HavePower : Fraction → Fraction → Type 0
HavePower a b = IsWhole a × IsWhole b × (pos 0 ≤ℤ b.numerator)

-- the first, so many times multiplied by itself as the second says; the power 0 is 1
abbrev pub power_of : Fraction → Fraction → ℤ
power_of a b = int_pow a.numerator (unsigned_abs b.numerator)

-- the product of the denominators, over which a sum and a difference have these numerators
abbrev pub under : Fraction → Fraction → ℤ
under a b = pos (a.denominator * b.denominator)

abbrev pub over_sum : Fraction → Fraction → ℤ
over_sum a b = a.numerator *ℤ pos b.denominator +ℤ b.numerator *ℤ pos a.denominator

abbrev pub over_difference : Fraction → Fraction → ℤ
over_difference a b = a.numerator *ℤ pos b.denominator -ℤ b.numerator *ℤ pos a.denominator

-- which of two fractions is less, or that they are equal
abbrev pub Compares : Fraction → Fraction → Ordering → Type 0
Compares a b order =
    let left = a.numerator *ℤ pos b.denominator in
    let right = b.numerator *ℤ pos a.denominator in
    MatchOrdering order (left <ℤ right) (left ≡ right) (right <ℤ left)

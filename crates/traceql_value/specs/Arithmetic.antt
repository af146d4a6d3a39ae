-- Arithmetic of exact fractions: what comes out, where it is within the bounds.
use Rattle.std.specs.Prelude.{ℕ, zero, suc, max, ◌+◌, ◌-◌, ◌*◌, ◌%◌, ◌^◌, ◌==◌, ℤ, pos, ◌*ℤ◌, neg_ℤ, unsigned_abs, int_div, int_rem, int_le, Bool, ◌&&◌, not, Option, Some, None, if◌then◌else◌}
use Rattle.std.specs.Option.{option_and_then}
use Rattle.std.specs.Ordering.{int_cmp}
use Rattle.std.specs.declared.cmp.Ordering.{Ordering}
use Rattle.traceql_value.specs.Fractions.{Fraction, whole_fraction, power_of, under, over_sum, over_difference}

-- the number has 64 signed bits
abbrev pub fits : ℤ → Bool
fits n = int_le (neg_ℤ (pos (2 ^ 63))) n && int_le n (pos (2 ^ 63 - 1))

-- The least number, of so many from the first one on, by which p / q is multiplied to a whole number.
unfoldable pub denominator_from : ℕ → ℕ → ℕ → ℕ → Option ℕ
denominator_from p q first zero = None
denominator_from p q first (suc more) = if (p * first) % q == 0 then Some first else denominator_from p q (first + 1) more

-- p / q over this denominator, where the numerator has 64 signed bits
abbrev pub over : ℤ → ℤ → ℕ → Option Fraction
over p q d = let up = int_div (p *ℤ pos d) q in if fits up then Some (record { numerator = up; denominator = d }) else None

-- The ratio that p / q is, where there is one: its denominator is the least there can be, and at most 2^63 - 1.
unfoldable pub ratio_of : ℤ → ℤ → Option Fraction
ratio_of p q = option_and_then (over p q) (denominator_from (unsigned_abs p) (unsigned_abs q) 1 (2 ^ 63 - 1))

abbrev pub sum_of : Fraction → Fraction → Option Fraction
sum_of a b = ratio_of (over_sum a b) (under a b)

abbrev pub difference_of : Fraction → Fraction → Option Fraction
difference_of a b = ratio_of (over_difference a b) (under a b)

abbrev pub product_of : Fraction → Fraction → Option Fraction
product_of a b = ratio_of (a.numerator *ℤ b.numerator) (under a b)

abbrev pub is_zero : Fraction → Bool
is_zero a = unsigned_abs a.numerator == 0

abbrev pub is_whole : Fraction → Bool
is_whole a = a.denominator == 1

-- There is no quotient by 0.
abbrev pub quotient_of : Fraction → Fraction → Option Fraction
quotient_of a b = if is_zero b then None else ratio_of (a.numerator *ℤ pos b.denominator) (b.numerator *ℤ pos a.denominator)

-- A remainder is one of whole numbers, and has the sign of the dividend.
abbrev pub remainder_of : Fraction → Fraction → Option Fraction
remainder_of a b =
    if is_whole a && (is_whole b && not (is_zero b)) then Some (whole_fraction (int_rem a.numerator b.numerator)) else None

-- A power is one of a whole number, by a whole number that isn't negative.
abbrev pub power_within : Fraction → Fraction → Option Fraction
power_within a b =
    if is_whole a && (is_whole b && (int_le (pos 0) b.numerator && fits (power_of a b))) then Some (whole_fraction (power_of a b)) else None

abbrev pub negative_of : Fraction → Option Fraction
negative_of a = if fits (neg_ℤ a.numerator) then Some (record { numerator = neg_ℤ a.numerator; denominator = a.denominator }) else None

-- Which of two fractions is less. No ratio has the denominator 0; it would count as 1, so that this is an order of all
-- fractions.
abbrev pub fraction_cmp : Fraction → Fraction → Ordering
fraction_cmp a b = int_cmp (a.numerator *ℤ pos (max 1 b.denominator)) (b.numerator *ℤ pos (max 1 a.denominator))

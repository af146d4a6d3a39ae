-- Values, and what operators make of them.
use Rattle.std.specs.Prelude.{ℕ, ◌^◌, ℤ, pos, List, [], ◌∷◌, Bool, true, false, not, ◌&&◌, ◌||◌, ◌==◌, nat_lt, Option, Some, None, if◌then◌else◌}
use Rattle.std.specs.Ordering.{nat_cmp, is_lt, is_le, is_gt, is_ge, is_eq, is_ne}
use Rattle.std.specs.Cmp.Lexicographic.{slice_cmp}
use Rattle.std.specs.declared.cmp.Ordering.{Ordering}
use Rattle.span_types.specs.declared.attrs.AttrValue.{AttrValue}
use Rattle.span_types.specs.declared.attrs.AttrValue.TheVariants as attr
use Rattle.span_types.specs.Numbers.{code_number, kind_number}
use Rattle.traceql_syntax.specs.declared.field.BinaryOp.{BinaryOp}
use Rattle.traceql_syntax.specs.declared.field.BinaryOp.TheVariants as binary
use Rattle.traceql_syntax.specs.declared.field.Comparison.{Comparison}
use Rattle.traceql_syntax.specs.declared.field.Comparison.TheVariants as comparison
use Rattle.traceql_syntax.specs.declared.field.UnaryOp.{UnaryOp}
use Rattle.traceql_syntax.specs.declared.field.UnaryOp.TheVariants as unary
use Rattle.traceql_value.specs.declared.value.Value.{Value}
use Rattle.traceql_value.specs.declared.value.Value.TheVariants.{Nil, Truth, Number, Text, Status, Kind}
use Rattle.traceql_value.specs.Fractions.{Fraction, whole_fraction}
use Rattle.traceql_value.specs.Arithmetic.{sum_of, difference_of, product_of, quotient_of, remainder_of, power_within, negative_of, fraction_cmp}

-- a number, or none where it is outside of the bounds
abbrev pub number_or_nil : Option Fraction → Value
number_or_nil None = Nil
number_or_nil (Some r) = Number r

-- a whole number, none from 2^63 on
abbrev pub whole_number : ℕ → Value
whole_number n = if nat_lt n (2 ^ 63) then Number (whole_fraction (pos n)) else Nil

-- so many nanoseconds
abbrev pub nanoseconds : ℕ → Value
nanoseconds n = whole_number n

-- the value of an attribute
abbrev pub attr_value : AttrValue → Value
attr_value (attr.Text text) = Text text
attr_value (attr.Whole n) = Number (whole_fraction n)
attr_value (attr.Truth truth) = Truth truth

-- a text that may be absent
abbrev pub unless_empty : List ℕ → Value
unless_empty [] = Nil
unless_empty (b ∷ bs) = Text (b ∷ bs)

abbrev pub is_true : Value → Bool
is_true (Truth truth) = truth
is_true _ = false

abbrev pub is_nil : Value → Bool
is_nil Nil = true
is_nil _ = false

-- the fact, where the value is a number
abbrev pub IfNumber : Value → (Fraction → Type 0) → Type 0
IfNumber (Number n) P = P n
IfNumber _ P = Unit {0}

-- the number, where the value is a whole one
abbrev pub whole_of : Value → Option ℤ
whole_of (Number r) = if r.denominator == 1 then Some r.numerator else None
whole_of _ = None

-- what arithmetic gives: nil where an operand is no number
abbrev pub arithmetic : (Fraction → Fraction → Option Fraction) → Value → Value → Value
arithmetic f (Number a) (Number b) = number_or_nil (f a b)
arithmetic f _ _ = Nil

-- whether a comparison is true of what stands in this order
abbrev pub accepts : Comparison → Ordering → Bool
accepts comparison.Equal o = is_eq o
accepts comparison.NotEqual o = is_ne o
accepts comparison.Less o = is_lt o
accepts comparison.AtMost o = is_le o
accepts comparison.Greater o = is_gt o
accepts comparison.AtLeast o = is_ge o

-- the same of what is only equal or not
abbrev pub accepts_equal : Comparison → Bool → Bool
accepts_equal comparison.Equal same = same
accepts_equal comparison.NotEqual same = not same
accepts_equal _ same = false

abbrev pub same_truth : Bool → Bool → Bool
same_truth true b = b
same_truth false b = not b

-- Whether a comparison is true. It is false where the kinds differ or a side is nil, whichever comparison it is. Truths,
-- statuses and roles are equal or not, and none of them is less than another.
abbrev pub compares : Comparison → Value → Value → Bool
compares c (Truth a) (Truth b) = accepts_equal c (same_truth a b)
compares c (Number a) (Number b) = accepts c (fraction_cmp a b)
compares c (Text a) (Text b) = accepts c (slice_cmp nat_cmp a b)
compares c (Status a) (Status b) = accepts_equal c (code_number a == code_number b)
compares c (Kind a) (Kind b) = accepts_equal c (kind_number a == kind_number b)
compares c _ _ = false

-- what an operator gives that is no comparison with the literal nil
abbrev pub combine_values : BinaryOp → Value → Value → Value
combine_values binary.Or a b = Truth (is_true a || is_true b)
combine_values binary.And a b = Truth (is_true a && is_true b)
combine_values (binary.Compare c) a b = Truth (compares c a b)
combine_values binary.Add a b = arithmetic sum_of a b
combine_values binary.Subtract a b = arithmetic difference_of a b
combine_values binary.Multiply a b = arithmetic product_of a b
combine_values binary.Divide a b = arithmetic quotient_of a b
combine_values binary.Remainder a b = arithmetic remainder_of a b
combine_values binary.Power a b = arithmetic power_within a b

-- what an arithmetic operator makes of two numbers; nothing where the operator is another
abbrev pub compute_number : BinaryOp → Fraction → Fraction → Option Fraction
compute_number binary.Or a b = None
compute_number binary.And a b = None
compute_number (binary.Compare c) a b = None
compute_number binary.Add a b = sum_of a b
compute_number binary.Subtract a b = difference_of a b
compute_number binary.Multiply a b = product_of a b
compute_number binary.Divide a b = quotient_of a b
compute_number binary.Remainder a b = remainder_of a b
compute_number binary.Power a b = power_within a b

-- what a unary operator gives
abbrev pub apply_unary : UnaryOp → Value → Value
apply_unary unary.Negate (Number a) = number_or_nil (negative_of a)
apply_unary unary.Negate _ = Nil
apply_unary unary.Not (Truth truth) = Truth (not truth)
apply_unary unary.Not _ = Nil

-- which kind of value stands first
abbrev pub kind_rank : Value → ℕ
kind_rank Nil = 0
kind_rank (Truth truth) = 1
kind_rank (Number n) = 2
kind_rank (Text text) = 3
kind_rank (Status status) = 4
kind_rank (Kind kind) = 5

abbrev pub truth_number : Bool → ℕ
truth_number false = 0
truth_number true = 1

-- The order of values in a grouping: nil, false, true, numbers, texts by their bytes, statuses and then roles by OTLP's
-- numbers.
abbrev pub value_cmp : Value → Value → Ordering
value_cmp (Truth a) (Truth b) = nat_cmp (truth_number a) (truth_number b)
value_cmp (Number a) (Number b) = fraction_cmp a b
value_cmp (Text a) (Text b) = slice_cmp nat_cmp a b
value_cmp (Status a) (Status b) = nat_cmp (code_number a) (code_number b)
value_cmp (Kind a) (Kind b) = nat_cmp (kind_number a) (kind_number b)
value_cmp a b = nat_cmp (kind_rank a) (kind_rank b)

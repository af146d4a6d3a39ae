-- What a field expression is for a span in its trace, by recursion on the expression.
use Rattle.std.specs.Prelude.{ℕ, List, [], ◌∷◌, Bool, true, false, not, Option, Some, None, is_some, if◌then◌else◌}
use Rattle.std.specs.Str.{bytes_eq}
use Rattle.regex.specs.Patterns.{find_str}
use Rattle.span_types.specs.declared.spans.Row.{Row}
use Rattle.span_types.specs.declared.spans.Span.{Span}
use Rattle.traceql_syntax.specs.declared.field.BinaryOp.{BinaryOp}
use Rattle.traceql_syntax.specs.declared.field.BinaryOp.TheVariants as binary
use Rattle.traceql_syntax.specs.declared.field.Comparison.{Comparison}
use Rattle.traceql_syntax.specs.declared.field.Comparison.TheVariants as comparison
use Rattle.traceql_syntax.specs.declared.field.Literal.{Literal}
use Rattle.traceql_syntax.specs.declared.field.Literal.TheVariants as literal
use Rattle.traceql_syntax.specs.Trees.{Tree, Literally, Asks, Unary, Binary, Match}
use Rattle.traceql_types.specs.declared.pattern.Pattern.{Pattern}
use Rattle.traceql_types.specs.Patterns.{pattern_text, pattern_re}
use Rattle.traceql_value.specs.declared.value.Value.{Value}
use Rattle.traceql_value.specs.declared.value.Value.TheVariants.{Nil, Truth, Text, Status, Kind}
use Rattle.traceql_value.specs.Spans.{field_of_span}
use Rattle.traceql_value.specs.Values.{combine_values, apply_unary, is_nil, is_true, whole_number, nanoseconds}

-- The value of a literal. The numbers in a query's text are below 2^63.
abbrev pub literal_value : Literal → Value
literal_value (literal.Text text) = Text text
literal_value (literal.Number n) = whole_number n
literal_value (literal.Duration n) = nanoseconds n
literal_value (literal.Truth truth) = Truth truth
literal_value literal.Nil = Nil
literal_value (literal.Status status) = Status status
literal_value (literal.Kind kind) = Kind kind

-- the literal `nil`
abbrev pub is_literal_nil : Tree → Bool
is_literal_nil (Literally at literal.Nil) = true
is_literal_nil _ = false

-- Whether the whole text matches the pattern of this string: `regex` finds a match of it in the text. Of patterns with
-- one string the first counts; they are readings of one text.
abbrev pub matches : List Pattern → List ℕ → List ℕ → Bool
matches [] string text = false
matches (p ∷ ps) string text = if bytes_eq (pattern_text p) string then is_some (find_str (pattern_re p) text 0) else matches ps string text

-- A text matches or doesn't. What is no text neither matches nor differs.
abbrev pub matched : List Pattern → List ℕ → Bool → Value → Bool
matched ps string negated (Text text) = if negated then not (matches ps string text) else matches ps string text
matched ps string negated _ = false

-- a comparison with the literal `nil` asks whether there is a value
abbrev pub tests_nil : Comparison → Value → Bool
tests_nil comparison.Equal v = is_nil v
tests_nil comparison.NotEqual v = not (is_nil v)
tests_nil _ v = false

-- what a binary operator gives of its operands, of which one may be the literal `nil`
abbrev pub apply_binary : BinaryOp → Bool → Bool → Value → Value → Value
apply_binary (binary.Compare c) true nil_right a b = Truth (tests_nil c b)
apply_binary (binary.Compare c) false true a b = Truth (tests_nil c a)
apply_binary op nil_left nil_right a b = combine_values op a b

-- what `&&` and `||` give by their left side alone: `&&` is false where that isn't true, and `||` is true where it is
abbrev pub decide_by_left : BinaryOp → Value → Option Bool
decide_by_left binary.And a = if is_true a then None else Some false
decide_by_left binary.Or a = if is_true a then Some true else None
decide_by_left op a = None

-- the value of an expression for a span, under a query's patterns and in the trace of these rows
unfoldable pub value_of : List Pattern → List Row → Span → Tree → Value
value_of ps rows s (Literally at l) = literal_value l
value_of ps rows s (Asks at f) = field_of_span f rows s
value_of ps rows s (Unary at op first e) = apply_unary op (value_of ps rows s e)
value_of ps rows s (Binary at op first a second b) =
    apply_binary op (is_literal_nil a) (is_literal_nil b) (value_of ps rows s a) (value_of ps rows s b)
value_of ps rows s (Match at negated first e pattern_at pattern) = Truth (matched ps pattern negated (value_of ps rows s e))

-- whether a condition is true of a span
abbrev pub is_so : List Pattern → List Row → Span → Tree → Bool
is_so ps rows s e = is_true (value_of ps rows s e)

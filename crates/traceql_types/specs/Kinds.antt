-- What is known of an expression's kind, and which comparisons clash.
use Rattle.std.specs.Prelude.{Bool, true, false, not, ◌&&◌, ◌||◌}
use Rattle.traceql_tokens.specs.declared.fixed.Intrinsic.{Intrinsic}
use Rattle.traceql_tokens.specs.declared.fixed.Intrinsic.TheVariants as intrinsic
use Rattle.traceql_syntax.specs.declared.field.BinaryOp.{BinaryOp}
use Rattle.traceql_syntax.specs.declared.field.BinaryOp.TheVariants as binary
use Rattle.traceql_syntax.specs.declared.field.Comparison.{Comparison}
use Rattle.traceql_syntax.specs.declared.field.Comparison.TheVariants as comparison
use Rattle.traceql_syntax.specs.declared.field.Field.{Field}
use Rattle.traceql_syntax.specs.declared.field.Field.TheVariants as field
use Rattle.traceql_syntax.specs.declared.field.Literal.{Literal}
use Rattle.traceql_syntax.specs.declared.field.Literal.TheVariants as literal
use Rattle.traceql_syntax.specs.declared.field.UnaryOp.{UnaryOp}
use Rattle.traceql_syntax.specs.declared.field.UnaryOp.TheVariants as unary
use Rattle.traceql_syntax.specs.Trees.{Tree, Literally, Asks, Unary, Binary, Match}
use Rattle.traceql_types.specs.declared.kinds.Kind.{Kind}
use Rattle.traceql_types.specs.declared.kinds.Kind.TheVariants as kind

abbrev pub kind_of_literal : Literal → Kind
kind_of_literal (literal.Text text) = kind.Text
kind_of_literal (literal.Number n) = kind.Number
kind_of_literal (literal.Duration n) = kind.Number
kind_of_literal (literal.Truth t) = kind.Truth
kind_of_literal literal.Nil = kind.Nil
kind_of_literal (literal.Status s) = kind.Status
kind_of_literal (literal.Kind k) = kind.SpanKind

-- the intrinsics that are no texts, and those that are
abbrev pub kind_of_intrinsic : Intrinsic → Kind
kind_of_intrinsic intrinsic.Status = kind.Status
kind_of_intrinsic intrinsic.SpanStatus = kind.Status
kind_of_intrinsic intrinsic.Kind = kind.SpanKind
kind_of_intrinsic intrinsic.SpanKind = kind.SpanKind
kind_of_intrinsic intrinsic.Duration = kind.Number
kind_of_intrinsic intrinsic.SpanDuration = kind.Number
kind_of_intrinsic intrinsic.TraceDuration = kind.Number
kind_of_intrinsic intrinsic.TraceColonDuration = kind.Number
kind_of_intrinsic _ = kind.Text

abbrev pub kind_of_field : Field → Kind
kind_of_field (field.Attribute scope name) = kind.Open
kind_of_field (field.Intrinsic i) = kind_of_intrinsic i

abbrev pub kind_of_unary : UnaryOp → Kind
kind_of_unary unary.Negate = kind.Number
kind_of_unary unary.Not = kind.Truth

abbrev pub kind_of_binary : BinaryOp → Kind
kind_of_binary binary.Or = kind.Truth
kind_of_binary binary.And = kind.Truth
kind_of_binary (binary.Compare c) = kind.Truth
kind_of_binary _ = kind.Number

-- what is known of the kind of an expression's value: what its outermost part gives
abbrev pub kind_of : Tree → Kind
kind_of (Literally at l) = kind_of_literal l
kind_of (Asks at f) = kind_of_field f
kind_of (Unary at op first e) = kind_of_unary op
kind_of (Binary at op first a second b) = kind_of_binary op
kind_of (Match at negated first e pattern_at pattern) = kind.Truth

-- the same known kind
abbrev pub same_kind : Kind → Kind → Bool
same_kind kind.Text kind.Text = true
same_kind kind.Number kind.Number = true
same_kind kind.Truth kind.Truth = true
same_kind kind.Status kind.Status = true
same_kind kind.SpanKind kind.SpanKind = true
same_kind _ _ = false

-- An open kind fits every other.
abbrev pub differ : Kind → Kind → Bool
differ kind.Open b = false
differ a kind.Open = false
differ a b = not (same_kind a b)

-- the kinds whose values aren't less than one another
abbrev pub has_no_order : Kind → Bool
has_no_order kind.Truth = true
has_no_order kind.Status = true
has_no_order kind.SpanKind = true
has_no_order _ = false

-- the comparisons that ask for an order
abbrev pub is_order : Comparison → Bool
is_order comparison.Equal = false
is_order comparison.NotEqual = false
is_order _ = true

-- A comparison clashes where both sides are `nil`; where one is, and an order is asked for; where the known kinds
-- differ; and where an order is asked for of a kind that has none.
abbrev pub clashes : Comparison → Kind → Kind → Bool
clashes c kind.Nil kind.Nil = true
clashes c kind.Nil b = is_order c
clashes c a kind.Nil = is_order c
clashes c a b = differ a b || (is_order c && (has_no_order a || has_no_order b))

-- Which sign, word or token each operator, literal and field is written with.
use Rattle.std.specs.Prelude.{Bool, true, false}
use Rattle.span_types.specs.declared.spans.SpanKind.{SpanKind}
use Rattle.span_types.specs.declared.spans.SpanKind.TheVariants as span
use Rattle.span_types.specs.declared.spans.StatusCode.{StatusCode}
use Rattle.span_types.specs.declared.spans.StatusCode.TheVariants as status
use Rattle.traceql_tokens.specs.declared.fixed.Sign.{Sign}
use Rattle.traceql_tokens.specs.declared.fixed.Sign.TheVariants as sign
use Rattle.traceql_tokens.specs.declared.fixed.Word.{Word}
use Rattle.traceql_tokens.specs.declared.fixed.Word.TheVariants as word
use Rattle.traceql_tokens.specs.declared.kinds.TokenKind.{TokenKind}
use Rattle.traceql_tokens.specs.declared.kinds.TokenKind.TheVariants as token
use Rattle.traceql_syntax.specs.declared.field.BinaryOp.{BinaryOp}
use Rattle.traceql_syntax.specs.declared.field.BinaryOp.TheVariants as binary
use Rattle.traceql_syntax.specs.declared.field.Comparison.{Comparison}
use Rattle.traceql_syntax.specs.declared.field.Comparison.TheVariants as comparison
use Rattle.traceql_syntax.specs.declared.field.Field.{Field}
use Rattle.traceql_syntax.specs.declared.field.Field.TheVariants as field
use Rattle.traceql_syntax.specs.declared.field.Literal.{Literal}
use Rattle.traceql_syntax.specs.declared.field.Literal.TheVariants as literal
use Rattle.traceql_syntax.specs.declared.field.UnaryOp.{UnaryOp}
use Rattle.traceql_syntax.specs.declared.field.UnaryOp.TheVariants as unary
use Rattle.traceql_syntax.specs.declared.query.AggregateOp.{AggregateOp}
use Rattle.traceql_syntax.specs.declared.query.AggregateOp.TheVariants as aggregate
use Rattle.traceql_syntax.specs.declared.query.Relation.{Relation}
use Rattle.traceql_syntax.specs.declared.query.Relation.TheVariants as relation
use Rattle.traceql_syntax.specs.declared.query.Side.{Side}
use Rattle.traceql_syntax.specs.declared.query.Side.TheVariants as side
use Rattle.traceql_syntax.specs.declared.query.SpansetOp.{SpansetOp}
use Rattle.traceql_syntax.specs.declared.query.SpansetOp.TheVariants as set

abbrev pub unary_sign : UnaryOp → Sign
unary_sign unary.Negate = sign.Minus
unary_sign unary.Not = sign.Bang

abbrev pub comparison_sign : Comparison → Sign
comparison_sign comparison.Equal = sign.Equal
comparison_sign comparison.NotEqual = sign.BangEqual
comparison_sign comparison.Less = sign.Less
comparison_sign comparison.AtMost = sign.LessEqual
comparison_sign comparison.Greater = sign.Greater
comparison_sign comparison.AtLeast = sign.GreaterEqual

abbrev pub binary_sign : BinaryOp → Sign
binary_sign binary.Or = sign.BarBar
binary_sign binary.And = sign.AmpAmp
binary_sign (binary.Compare op) = comparison_sign op
binary_sign binary.Add = sign.Plus
binary_sign binary.Subtract = sign.Minus
binary_sign binary.Multiply = sign.Star
binary_sign binary.Divide = sign.Slash
binary_sign binary.Remainder = sign.Percent
binary_sign binary.Power = sign.Caret

-- a match with a pattern, or its opposite
abbrev pub match_sign : Bool → Sign
match_sign false = sign.EqualTilde
match_sign true = sign.BangTilde

abbrev pub related_sign : Relation → Side → Sign
related_sign relation.Child side.Right = sign.Greater
related_sign relation.Child side.Unrelated = sign.BangGreater
related_sign relation.Child side.Both = sign.AmpGreater
related_sign relation.Descendant side.Right = sign.GreaterGreater
related_sign relation.Descendant side.Unrelated = sign.BangGreaterGreater
related_sign relation.Descendant side.Both = sign.AmpGreaterGreater
related_sign relation.Parent side.Right = sign.Less
related_sign relation.Parent side.Unrelated = sign.BangLess
related_sign relation.Parent side.Both = sign.AmpLess
related_sign relation.Ancestor side.Right = sign.LessLess
related_sign relation.Ancestor side.Unrelated = sign.BangLessLess
related_sign relation.Ancestor side.Both = sign.AmpLessLess
related_sign relation.Sibling side.Right = sign.Tilde
related_sign relation.Sibling side.Unrelated = sign.BangTilde
related_sign relation.Sibling side.Both = sign.AmpTilde

abbrev pub set_sign : SpansetOp → Sign
set_sign set.And = sign.AmpAmp
set_sign set.Or = sign.BarBar
set_sign (set.Related relation side) = related_sign relation side

abbrev pub aggregate_word : AggregateOp → Word
aggregate_word aggregate.Average = word.Avg
aggregate_word aggregate.Least = word.Min
aggregate_word aggregate.Greatest = word.Max
aggregate_word aggregate.Sum = word.Sum

abbrev pub truth_word : Bool → Word
truth_word true = word.True
truth_word false = word.False

abbrev pub status_word : StatusCode → Word
status_word status.Unset = word.Unset
status_word status.Fine = word.Fine
status_word status.Error = word.Error

abbrev pub kind_word : SpanKind → Word
kind_word span.Unspecified = word.Unspecified
kind_word span.Internal = word.Internal
kind_word span.Server = word.Server
kind_word span.Client = word.Client
kind_word span.Producer = word.Producer
kind_word span.Consumer = word.Consumer

-- the token of a literal
abbrev pub literal_kind : Literal → TokenKind
literal_kind (literal.Text value) = token.Quoted value
literal_kind (literal.Number n) = token.Number n
literal_kind (literal.Duration n) = token.Duration n
literal_kind (literal.Truth b) = token.Keyword (truth_word b)
literal_kind literal.Nil = token.Keyword word.Nil
literal_kind (literal.Status s) = token.Keyword (status_word s)
literal_kind (literal.Kind k) = token.Keyword (kind_word k)

-- the token of a field
abbrev pub field_kind : Field → TokenKind
field_kind (field.Attribute scope name) = token.Named scope name
field_kind (field.Intrinsic i) = token.Builtin i

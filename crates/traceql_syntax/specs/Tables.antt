-- What each sign, word and token stands for where a rule of the grammar asks for it.
use Rattle.std.specs.Prelude.{ℕ, Bool, true, false, Option, Some, None, option_map}
use Rattle.span_types.specs.declared.spans.SpanKind.TheVariants as span
use Rattle.span_types.specs.declared.spans.StatusCode.TheVariants as status
use Rattle.traceql_tokens.specs.declared.fixed.Sign.{Sign}
use Rattle.traceql_tokens.specs.declared.fixed.Sign.TheVariants as sign
use Rattle.traceql_tokens.specs.declared.fixed.Word.{Word}
use Rattle.traceql_tokens.specs.declared.fixed.Word.TheVariants as word
use Rattle.traceql_tokens.specs.declared.kinds.TokenKind.{TokenKind}
use Rattle.traceql_tokens.specs.declared.kinds.TokenKind.TheVariants as token
use Rattle.traceql_syntax.specs.declared.field.BinaryOp.{BinaryOp}
use Rattle.traceql_syntax.specs.declared.field.BinaryOp.TheVariants as binary
use Rattle.traceql_syntax.specs.declared.field.Comparison.{Comparison}
use Rattle.traceql_syntax.specs.declared.field.Comparison.TheVariants as comparison
use Rattle.traceql_syntax.specs.declared.field.Field.{Field}
use Rattle.traceql_syntax.specs.declared.field.Field.TheVariants as field
use Rattle.traceql_syntax.specs.declared.field.Level.{Level}
use Rattle.traceql_syntax.specs.declared.field.Level.TheVariants as level
use Rattle.traceql_syntax.specs.declared.field.Literal.{Literal}
use Rattle.traceql_syntax.specs.declared.field.Literal.TheVariants as literal
use Rattle.traceql_syntax.specs.declared.field.UnaryOp.{UnaryOp}
use Rattle.traceql_syntax.specs.declared.field.UnaryOp.TheVariants as unary
use Rattle.traceql_syntax.specs.declared.query.AggregateOp.{AggregateOp}
use Rattle.traceql_syntax.specs.declared.query.AggregateOp.TheVariants as aggregate
use Rattle.traceql_syntax.specs.declared.query.Relation.TheVariants as relation
use Rattle.traceql_syntax.specs.declared.query.Side.TheVariants as side
use Rattle.traceql_syntax.specs.declared.query.SpansetLevel.{SpansetLevel}
use Rattle.traceql_syntax.specs.declared.query.SpansetLevel.TheVariants as set_level
use Rattle.traceql_syntax.specs.declared.query.SpansetOp.{SpansetOp}
use Rattle.traceql_syntax.specs.declared.query.SpansetOp.TheVariants as set
use Rattle.traceql_syntax.specs.Trees.{ThresholdTree, Number, Duration}

-- what a sign stands for, where the token is one
abbrev pub on_sign : {V : Type 0} → (Sign → Option V) → TokenKind → Option V
on_sign f (token.Mark s) = f s
on_sign f _ = None

-- what a word stands for, where the token is one
abbrev pub on_word : {V : Type 0} → (Word → Option V) → TokenKind → Option V
on_word f (token.Keyword w) = f w
on_word f _ = None

-- the unary operators
abbrev pub prefix_sign : Sign → Option UnaryOp
prefix_sign sign.Minus = Some unary.Negate
prefix_sign sign.Bang = Some unary.Not
prefix_sign _ = None

abbrev pub comparison_sign : Sign → Option Comparison
comparison_sign sign.Equal = Some comparison.Equal
comparison_sign sign.BangEqual = Some comparison.NotEqual
comparison_sign sign.Less = Some comparison.Less
comparison_sign sign.LessEqual = Some comparison.AtMost
comparison_sign sign.Greater = Some comparison.Greater
comparison_sign sign.GreaterEqual = Some comparison.AtLeast
comparison_sign _ = None

abbrev pub product_sign : Sign → Option BinaryOp
product_sign sign.Star = Some binary.Multiply
product_sign sign.Slash = Some binary.Divide
product_sign sign.Percent = Some binary.Remainder
product_sign _ = None

abbrev pub sum_sign : Sign → Option BinaryOp
sum_sign sign.Plus = Some binary.Add
sum_sign sign.Minus = Some binary.Subtract
sum_sign _ = None

abbrev pub choice_sign : Sign → Option BinaryOp
choice_sign sign.AmpAmp = Some binary.And
choice_sign sign.BarBar = Some binary.Or
choice_sign _ = None

-- the binary operators of a level
abbrev pub level_sign : Level → Sign → Option BinaryOp
level_sign level.Product s = product_sign s
level_sign level.Sum s = sum_sign s
level_sign level.Comparison s = option_map binary.Compare (comparison_sign s)
level_sign level.Choice s = choice_sign s

-- the operators that take a pattern, and whether they negate
abbrev pub pattern_sign : Sign → Option Bool
pattern_sign sign.EqualTilde = Some false
pattern_sign sign.BangTilde = Some true
pattern_sign _ = None

-- the operators between spansets that say how spans stand to each other
abbrev pub structure_sign : Sign → Option SpansetOp
structure_sign sign.Greater = Some (set.Related relation.Child side.Right)
structure_sign sign.GreaterGreater = Some (set.Related relation.Descendant side.Right)
structure_sign sign.Less = Some (set.Related relation.Parent side.Right)
structure_sign sign.LessLess = Some (set.Related relation.Ancestor side.Right)
structure_sign sign.Tilde = Some (set.Related relation.Sibling side.Right)
structure_sign sign.BangGreater = Some (set.Related relation.Child side.Unrelated)
structure_sign sign.BangGreaterGreater = Some (set.Related relation.Descendant side.Unrelated)
structure_sign sign.BangLess = Some (set.Related relation.Parent side.Unrelated)
structure_sign sign.BangLessLess = Some (set.Related relation.Ancestor side.Unrelated)
structure_sign sign.BangTilde = Some (set.Related relation.Sibling side.Unrelated)
structure_sign sign.AmpGreater = Some (set.Related relation.Child side.Both)
structure_sign sign.AmpGreaterGreater = Some (set.Related relation.Descendant side.Both)
structure_sign sign.AmpLess = Some (set.Related relation.Parent side.Both)
structure_sign sign.AmpLessLess = Some (set.Related relation.Ancestor side.Both)
structure_sign sign.AmpTilde = Some (set.Related relation.Sibling side.Both)
structure_sign _ = None

abbrev pub union_sign : Sign → Option SpansetOp
union_sign sign.AmpAmp = Some set.And
union_sign sign.BarBar = Some set.Or
union_sign _ = None

-- the operators between spansets of a level
abbrev pub set_sign : SpansetLevel → Sign → Option SpansetOp
set_sign set_level.Structure s = structure_sign s
set_sign set_level.Union s = union_sign s

-- the aggregates with an argument
abbrev pub aggregate_word : Word → Option AggregateOp
aggregate_word word.Avg = Some aggregate.Average
aggregate_word word.Min = Some aggregate.Least
aggregate_word word.Max = Some aggregate.Greatest
aggregate_word word.Sum = Some aggregate.Sum
aggregate_word _ = None

-- the words that end a metrics query, and whether they ask for a rate
abbrev pub metrics_word : Word → Option Bool
metrics_word word.Rate = Some true
metrics_word word.CountOverTime = Some false
metrics_word _ = None

-- the words that are literals
abbrev pub literal_word : Word → Option Literal
literal_word word.True = Some (literal.Truth true)
literal_word word.False = Some (literal.Truth false)
literal_word word.Nil = Some literal.Nil
literal_word word.Error = Some (literal.Status status.Error)
literal_word word.Fine = Some (literal.Status status.Fine)
literal_word word.Unset = Some (literal.Status status.Unset)
literal_word word.Server = Some (literal.Kind span.Server)
literal_word word.Client = Some (literal.Kind span.Client)
literal_word word.Producer = Some (literal.Kind span.Producer)
literal_word word.Consumer = Some (literal.Kind span.Consumer)
literal_word word.Internal = Some (literal.Kind span.Internal)
literal_word word.Unspecified = Some (literal.Kind span.Unspecified)
literal_word _ = None

-- the tokens that are literals
abbrev pub literal_of : TokenKind → Option Literal
literal_of (token.Quoted text) = Some (literal.Text text)
literal_of (token.Number n) = Some (literal.Number n)
literal_of (token.Duration n) = Some (literal.Duration n)
literal_of (token.Keyword w) = literal_word w
literal_of _ = None

-- the tokens that are fields
abbrev pub field_of : TokenKind → Option Field
field_of (token.Named scope name) = Some (field.Attribute scope name)
field_of (token.Builtin i) = Some (field.Intrinsic i)
field_of _ = None

-- the numbers and durations after a comparison of an aggregate: whether a minus stands before it, its place, the token
abbrev pub measure_of : Bool → ℕ → TokenKind → Option ThresholdTree
measure_of negative at (token.Number n) = Some (Number at negative n)
measure_of negative at (token.Duration n) = Some (Duration at negative n)
measure_of negative at _ = None

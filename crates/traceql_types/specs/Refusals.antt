-- What a query is refused for its kinds: a list with each refusal at its place, by recursion over the query.
use Rattle.std.specs.Prelude.{ℕ, List, [], ◌++◌, Option, Some, None, if◌then◌else◌}
use Rattle.std.specs.List.{flat_map}
use Rattle.traceql_syntax.specs.declared.field.BinaryOp.{BinaryOp}
use Rattle.traceql_syntax.specs.declared.field.BinaryOp.TheVariants as binary
use Rattle.traceql_syntax.specs.declared.field.Comparison.{Comparison}
use Rattle.traceql_syntax.specs.declared.field.Literal.TheVariants as literal
use Rattle.traceql_syntax.specs.declared.field.UnaryOp.{UnaryOp}
use Rattle.traceql_syntax.specs.declared.field.UnaryOp.TheVariants as unary
use Rattle.traceql_syntax.specs.Trees.{Tree, Literally, Asks, Unary, Binary, Match, Placed, SetTree, Filter, Join, AggregateTree, Count, Of, ThresholdTree, Aggregate, Number, Duration, StageTree, Keep, By, Coalesce, Select, Compare, QueryTree}
use Rattle.traceql_types.specs.declared.errors.TypeError.{TypeError}
use Rattle.traceql_types.specs.declared.errors.TypeError.TheVariants.{KindClash, NotTruth, DivisionInAggregate, NotNumber}
use Rattle.traceql_types.specs.declared.kinds.Kind.{Kind}
use Rattle.traceql_types.specs.declared.kinds.Kind.TheVariants as kind
use Rattle.traceql_types.specs.Kinds.{kind_of, clashes}
use Rattle.traceql_types.specs.Order.{listed}

-- `nil` where it isn't compared, refused at the literal
abbrev pub stray_nil : Tree → Option TypeError
stray_nil (Literally at literal.Nil) = Some (KindClash at)
stray_nil _ = None

-- a known kind other than truth
abbrev pub unless_truth : ℕ → Kind → Option TypeError
unless_truth at kind.Open = None
unless_truth at kind.Nil = None
unless_truth at kind.Truth = None
unless_truth at _ = Some (NotTruth at)

-- a known kind other than number
abbrev pub unless_number : ℕ → Kind → Option TypeError
unless_number at kind.Open = None
unless_number at kind.Nil = None
unless_number at kind.Number = None
unless_number at _ = Some (NotNumber at)

-- a known kind other than text
abbrev pub unless_text : ℕ → Kind → Option TypeError
unless_text at kind.Open = None
unless_text at kind.Nil = None
unless_text at kind.Text = None
unless_text at _ = Some (KindClash at)

-- what an operand itself is refused for where a truth or a number is wanted; its parts are looked at apart
abbrev pub as_truth : Placed → List TypeError
as_truth e = listed (stray_nil e.1) ++ listed (unless_truth e.0 (kind_of e.1))

abbrev pub as_number : Placed → List TypeError
as_number e = listed (stray_nil e.1) ++ listed (unless_number e.0 (kind_of e.1))

-- what the operand of a unary operator is refused for
abbrev pub under_unary : UnaryOp → Placed → List TypeError
under_unary unary.Negate e = as_number e
under_unary unary.Not e = as_truth e

-- what a comparison at this place is refused for
abbrev pub clash : ℕ → Comparison → Kind → Kind → Option TypeError
clash at c a b = if clashes c a b then Some (KindClash at) else None

-- what a binary operator at this place and its operands are refused for
abbrev pub under_binary : ℕ → BinaryOp → Placed → Placed → List TypeError
under_binary at binary.Or a b = as_truth a ++ as_truth b
under_binary at binary.And a b = as_truth a ++ as_truth b
under_binary at (binary.Compare c) a b = listed (clash at c (kind_of a.1) (kind_of b.1))
under_binary at _ a b = as_number a ++ as_number b

-- what a match with a pattern at this place is refused for
abbrev pub under_match : ℕ → Tree → List TypeError
under_match at e = listed (stray_nil e) ++ listed (unless_text at (kind_of e))

-- what the parts of an expression are refused for
abbrev pub expr_refusals : Tree → List TypeError
expr_refusals (Literally at l) = []
expr_refusals (Asks at f) = []
expr_refusals (Unary at op first e) = under_unary op (first, e) ++ expr_refusals e
expr_refusals (Binary at op first a second b) =
    under_binary at op (first, a) (second, b) ++ expr_refusals a ++ expr_refusals b
expr_refusals (Match at negated first e pattern_at pattern) = under_match at e ++ expr_refusals e

-- a division, refused at its sign
abbrev pub own_division : ℕ → BinaryOp → Option TypeError
own_division at binary.Divide = Some (DivisionInAggregate at)
own_division at _ = None

-- the divisions in an expression
abbrev pub divisions : Tree → List TypeError
divisions (Literally at l) = []
divisions (Asks at f) = []
divisions (Unary at op first e) = divisions e
divisions (Binary at op first a second b) = listed (own_division at op) ++ divisions a ++ divisions b
divisions (Match at negated first e pattern_at pattern) = divisions e

-- a filter is a truth
abbrev pub filter_refusals : Option Placed → List TypeError
filter_refusals None = []
filter_refusals (Some e) = as_truth e ++ expr_refusals e.1

-- an aggregate's argument is a number without a division
abbrev pub aggregate_refusals : AggregateTree → List TypeError
aggregate_refusals Count = []
aggregate_refusals (Of op e) = as_number e ++ expr_refusals e.1 ++ divisions e.1

abbrev pub threshold_refusals : ThresholdTree → List TypeError
threshold_refusals (Aggregate a) = aggregate_refusals a
threshold_refusals (Number at negative value) = []
threshold_refusals (Duration at negative nanos) = []

abbrev pub set_refusals : SetTree → List TypeError
set_refusals (Filter at condition) = filter_refusals condition
set_refusals (Join at op a b) = set_refusals a ++ set_refusals b

abbrev pub stage_refusals : StageTree → List TypeError
stage_refusals (Keep at condition) = filter_refusals condition
stage_refusals (By e) = listed (stray_nil e.1) ++ expr_refusals e.1
stage_refusals Coalesce = []
stage_refusals (Select fields) = []
stage_refusals (Compare a at op b) = aggregate_refusals a ++ threshold_refusals b

-- Every refusal of a query for its kinds. The kinds of a query fit where there is none.
abbrev pub kind_refusals : QueryTree → List TypeError
kind_refusals q = set_refusals q.spansets ++ flat_map stage_refusals q.stages

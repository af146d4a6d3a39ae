-- Queries as trees, without where their parts lie in memory. A number `at` is a place: how many bytes of the text
-- stand before it.
use Rattle.std.specs.Prelude.{ℕ, Bool, List, [], ◌∷◌, ◌++◌, Option, Some, None, map}
use Rattle.traceql_syntax.specs.declared.field.BinaryOp.{BinaryOp}
use Rattle.traceql_syntax.specs.declared.field.Comparison.{Comparison}
use Rattle.traceql_syntax.specs.declared.field.Field.{Field}
use Rattle.traceql_syntax.specs.declared.field.FieldExpr.{FieldExpr}
use Rattle.traceql_syntax.specs.declared.field.FieldExpr.TheVariants as expr
use Rattle.traceql_syntax.specs.declared.field.Literal.{Literal}
use Rattle.traceql_syntax.specs.declared.field.Operand.{Operand}
use Rattle.traceql_syntax.specs.declared.field.UnaryOp.{UnaryOp}
use Rattle.traceql_syntax.specs.declared.metrics.MetricsQuery.{MetricsQuery}
use Rattle.traceql_syntax.specs.declared.query.Aggregate.{Aggregate as AggregateValue}
use Rattle.traceql_syntax.specs.declared.query.Aggregate.TheVariants as aggregate
use Rattle.traceql_syntax.specs.declared.query.AggregateOp.{AggregateOp}
use Rattle.traceql_syntax.specs.declared.query.Query.{Query}
use Rattle.traceql_syntax.specs.declared.query.SpansetExpr.{SpansetExpr}
use Rattle.traceql_syntax.specs.declared.query.SpansetExpr.TheVariants as spanset
use Rattle.traceql_syntax.specs.declared.query.SpansetOp.{SpansetOp}
use Rattle.traceql_syntax.specs.declared.query.Stage.{Stage}
use Rattle.traceql_syntax.specs.declared.query.Stage.TheVariants as stage
use Rattle.traceql_syntax.specs.declared.query.Threshold.{Threshold}
use Rattle.traceql_syntax.specs.declared.query.Threshold.TheVariants as threshold

-- a field expression; after `first` stands the place of an operand's first byte, and then the operand
pub data Tree : Type 0 where
  Literally : (at : ℕ) → Literal → Tree
  Asks : (at : ℕ) → Field → Tree
  Unary : (at : ℕ) → UnaryOp → (first : ℕ) → Tree → Tree
  Binary : (at : ℕ) → BinaryOp → (first : ℕ) → Tree → (first : ℕ) → Tree → Tree
  Match : (at : ℕ) → (negated : Bool) → (first : ℕ) → Tree → (pattern_at : ℕ) → (pattern : List ℕ) → Tree

-- the place of an operand's first byte, and the operand
abbrev pub Placed : Type 0
Placed = ℕ × Tree

-- an expression over spansets
pub data SetTree : Type 0 where
  Filter : (at : ℕ) → (condition : Option Placed) → SetTree
  Join : (at : ℕ) → SpansetOp → SetTree → SetTree → SetTree

pub data AggregateTree : Type 0 where
  Count : AggregateTree
  Of : AggregateOp → Placed → AggregateTree

pub data ThresholdTree : Type 0 where
  Aggregate : AggregateTree → ThresholdTree
  Number : (at : ℕ) → (negative : Bool) → (value : ℕ) → ThresholdTree
  Duration : (at : ℕ) → (negative : Bool) → (nanos : ℕ) → ThresholdTree

pub data StageTree : Type 0 where
  Keep : (at : ℕ) → (condition : Option Placed) → StageTree
  By : Placed → StageTree
  Coalesce : StageTree
  Select : List Field → StageTree
  Compare : AggregateTree → (at : ℕ) → Comparison → ThresholdTree → StageTree

pub record QueryTree : Type 0 where
  pub spansets : SetTree
  pub stages : List StageTree

-- A metrics query: a query, whether its spans are told as a rate, and by which values they are split.
pub record MetricsTree : Type 0 where
  pub query : QueryTree
  pub rate : Bool
  pub by : Option Placed

-- The query that is checked and run for a metrics query: its own, with the stage `by` after it if it splits.
abbrev pub run_query : QueryTree → Option Placed → QueryTree
run_query q None = q
run_query q (Some e) = record { spansets = q.spansets; stages = q.stages ++ By e ∷ [] }

-- The trees of the code's values.

abbrev pub tree : FieldExpr → Tree
tree (expr.Literal at literal) = Literally at literal
tree (expr.Field at field) = Asks at field
tree (expr.Unary' at op p first e) = Unary at op first (tree e)
tree (expr.Binary' at op p first a q second b) = Binary at op first (tree a) second (tree b)
tree (expr.Match' at negated p first e pattern_at pattern) = Match at negated first (tree e) pattern_at pattern

abbrev pub placed : Operand → Placed
placed o = (o.at, tree o.expr)

abbrev pub placed_option : Option Operand → Option Placed
placed_option None = None
placed_option (Some o) = Some (placed o)

abbrev pub set_tree : SpansetExpr → SetTree
set_tree (spanset.Filter at condition) = Filter at (placed_option condition)
set_tree (spanset.Join' at op p a q b) = Join at op (set_tree a) (set_tree b)

abbrev pub aggregate_tree : AggregateValue → AggregateTree
aggregate_tree aggregate.Count = Count
aggregate_tree (aggregate.Of op argument) = Of op (placed argument)

abbrev pub threshold_tree : Threshold → ThresholdTree
threshold_tree (threshold.Aggregate a) = Aggregate (aggregate_tree a)
threshold_tree (threshold.Number at negative value) = Number at negative value
threshold_tree (threshold.Duration at negative nanos) = Duration at negative nanos

abbrev pub stage_tree : Stage → StageTree
stage_tree (stage.Filter at condition) = Keep at (placed_option condition)
stage_tree (stage.By e) = By (placed e)
stage_tree stage.Coalesce = Coalesce
stage_tree (stage.Select fields) = Select fields
stage_tree (stage.Compare left at op right) = Compare (aggregate_tree left) at op (threshold_tree right)

abbrev pub query_tree : Query → QueryTree
query_tree q = record { spansets = set_tree q.spansets; stages = map stage_tree q.stages }

abbrev pub metrics_tree : MetricsQuery → MetricsTree
metrics_tree m = record { query = query_tree m.query; rate = m.rate; by = placed_option m.by }

-- Trees without places: two queries are equal where these are.

abbrev pub bare : Tree → Tree
bare (Literally at literal) = Literally 0 literal
bare (Asks at field) = Asks 0 field
bare (Unary at op first e) = Unary 0 op 0 (bare e)
bare (Binary at op first a second b) = Binary 0 op 0 (bare a) 0 (bare b)
bare (Match at negated first e pattern_at pattern) = Match 0 negated 0 (bare e) 0 pattern

abbrev pub bare_placed : Placed → Placed
bare_placed e = (0, bare e.1)

abbrev pub bare_option : Option Placed → Option Placed
bare_option None = None
bare_option (Some e) = Some (bare_placed e)

abbrev pub bare_set : SetTree → SetTree
bare_set (Filter at condition) = Filter 0 (bare_option condition)
bare_set (Join at op a b) = Join 0 op (bare_set a) (bare_set b)

abbrev pub bare_aggregate : AggregateTree → AggregateTree
bare_aggregate Count = Count
bare_aggregate (Of op argument) = Of op (bare_placed argument)

abbrev pub bare_threshold : ThresholdTree → ThresholdTree
bare_threshold (Aggregate a) = Aggregate (bare_aggregate a)
bare_threshold (Number at negative value) = Number 0 negative value
bare_threshold (Duration at negative nanos) = Duration 0 negative nanos

abbrev pub bare_stage : StageTree → StageTree
bare_stage (Keep at condition) = Keep 0 (bare_option condition)
bare_stage (By e) = By (bare_placed e)
bare_stage Coalesce = Coalesce
bare_stage (Select fields) = Select fields
bare_stage (Compare left at op right) = Compare (bare_aggregate left) 0 op (bare_threshold right)

abbrev pub bare_query : QueryTree → QueryTree
bare_query q = record { spansets = bare_set q.spansets; stages = map bare_stage q.stages }

-- What expressions, filters, aggregates and stages are under a context: for its query's patterns and its trace's rows.
use Rattle.std.specs.Prelude.{ℕ, ℤ, List, Bool, Option, map}
use Rattle.span_types.specs.declared.spans.Row.{Row}
use Rattle.span_types.specs.declared.spans.Span.{Span}
use Rattle.traceql_syntax.specs.declared.field.Comparison.{Comparison}
use Rattle.traceql_syntax.specs.declared.field.FieldExpr.{FieldExpr}
use Rattle.traceql_syntax.specs.declared.field.Operand.{Operand}
use Rattle.traceql_syntax.specs.declared.query.Aggregate.{Aggregate}
use Rattle.traceql_syntax.specs.declared.query.Threshold.{Threshold}
use Rattle.traceql_syntax.specs.declared.query.Stage.{Stage}
use Rattle.traceql_syntax.specs.Trees.{tree, placed_option, aggregate_tree, threshold_tree, stage_tree}
use Rattle.traceql_value.specs.declared.context.EvalContext.{EvalContext}
use Rattle.traceql_value.specs.declared.value.Value.{Value}
use Rattle.traceql_value.specs.EvalContexts.{context_patterns, context_rows}
use Rattle.spanset_eval.specs.declared.amounts.Amount.{Amount}
use Rattle.spanset_eval.specs.declared.groups.Group.{Group}
use Rattle.spanset_eval.specs.Sets.{filter_span}
use Rattle.spanset_eval.specs.Stages.{value_at, filter_position, filter_spanset, split_by, numbers_of, amounts_compare, aggregate_of, threshold_of, after_stage, after_stages}

abbrev pub value_in : EvalContext → FieldExpr → ℕ → Value
value_in c e y = value_at (context_patterns c) (context_rows c) (tree e) y

abbrev pub filters_span : EvalContext → Option Operand → Span → Bool
filters_span c o s = filter_span (context_patterns c) (context_rows c) (placed_option o) s

abbrev pub filters_row : EvalContext → Option Operand → Row → Bool
filters_row c o r = filter_span (context_patterns c) (context_rows c) (placed_option o) r.span

abbrev pub filters_position : EvalContext → Option Operand → ℕ → Bool
filters_position c o y = filter_position (context_patterns c) (context_rows c) (placed_option o) y

abbrev pub filters_spanset : EvalContext → Option Operand → Group → Group
filters_spanset c o g = filter_spanset (context_patterns c) (context_rows c) (placed_option o) g

abbrev pub split_in : EvalContext → FieldExpr → Group → List Group
split_in c e g = split_by (context_patterns c) (context_rows c) (tree e) g

abbrev pub numbers_in : EvalContext → FieldExpr → List ℕ → List ℤ
numbers_in c e members = numbers_of (context_patterns c) (context_rows c) (tree e) members

abbrev pub aggregate_in : EvalContext → Aggregate → List ℕ → Option Amount
aggregate_in c a members = aggregate_of (context_patterns c) (context_rows c) (aggregate_tree a) members

abbrev pub threshold_in : EvalContext → Threshold → List ℕ → Option Amount
threshold_in c t members = threshold_of (context_patterns c) (context_rows c) (threshold_tree t) members

-- whether the comparison of an aggregate is true of a spanset
abbrev pub passes_in : EvalContext → Aggregate → Comparison → Threshold → Group → Bool
passes_in c left op right g = amounts_compare op (aggregate_in c left g.members) (threshold_in c right g.members)

abbrev pub stage_in : EvalContext → Stage → List Group → List Group
stage_in c s groups = after_stage (context_patterns c) (context_rows c) (stage_tree s) groups

abbrev pub stages_in : EvalContext → List Stage → List Group → List Group
stages_in c ss groups = after_stages (context_patterns c) (context_rows c) (map stage_tree ss) groups

-- How deep the printed form of a query nests: how many parentheses, unary operators and `^` are open at one place, at most.
use Rattle.std.specs.Prelude.{ℕ, suc, ◌≤◌, Bool, true, false, List, [], ◌∷◌, length, Option, Some, None, max}
use Rattle.span_types.specs.declared.limits.TheConstants.{MOST_QUERY_BYTES}
use Rattle.traceql_syntax.specs.declared.field.BinaryOp.{BinaryOp}
use Rattle.traceql_syntax.specs.declared.field.BinaryOp.TheVariants as binary
use Rattle.traceql_syntax.specs.Trees.{Tree, Literally, Asks, Unary, Binary, Match, Placed, SetTree, Filter, Join, AggregateTree, Count, Of, ThresholdTree, Aggregate, Number, Duration, StageTree, Keep, By, Coalesce, Select, Compare, QueryTree}
use Rattle.traceql_syntax.specs.Refusals.{DEPTH}
use Rattle.traceql_print.specs.Kinds.{is_binary, is_join}
use Rattle.traceql_print.specs.Text.{query_text}

-- an operand, which stands in parentheses where it is binary itself
abbrev pub operand_depth : (binary : Bool) → ℕ → ℕ
operand_depth true n = suc n
operand_depth false n = n

-- what stands on the right of an operator: inside of `^`
abbrev pub right_depth : BinaryOp → ℕ → ℕ
right_depth binary.Power n = suc n
right_depth _ n = n

abbrev pub expr_depth : Tree → ℕ
expr_depth (Literally at x) = 0
expr_depth (Asks at f) = 0
expr_depth (Unary at op first e) = suc (operand_depth (is_binary e) (expr_depth e))
expr_depth (Binary at op first a second b) =
    max (operand_depth (is_binary a) (expr_depth a)) (right_depth op (operand_depth (is_binary b) (expr_depth b)))
expr_depth (Match at negated first a pattern_at pattern) = operand_depth (is_binary a) (expr_depth a)

abbrev pub condition_depth : Option Placed → ℕ
condition_depth None = 0
condition_depth (Some e) = expr_depth e.1

abbrev pub set_depth : SetTree → ℕ
set_depth (Filter at c) = condition_depth c
set_depth (Join at op a b) = max (operand_depth (is_join a) (set_depth a)) (operand_depth (is_join b) (set_depth b))

abbrev pub aggregate_depth : AggregateTree → ℕ
aggregate_depth Count = 1
aggregate_depth (Of op e) = suc (expr_depth e.1)

abbrev pub threshold_depth : ThresholdTree → ℕ
threshold_depth (Aggregate a) = aggregate_depth a
threshold_depth (Number at negative n) = 0
threshold_depth (Duration at negative n) = 0

abbrev pub stage_depth : StageTree → ℕ
stage_depth (Keep at c) = condition_depth c
stage_depth (By e) = suc (expr_depth e.1)
stage_depth Coalesce = 1
stage_depth (Select fs) = 1
stage_depth (Compare a at op b) = max (aggregate_depth a) (threshold_depth b)

abbrev pub stages_depth : List StageTree → ℕ
stages_depth [] = 0
stages_depth (s ∷ ss) = max (stage_depth s) (stages_depth ss)

abbrev pub query_depth : QueryTree → ℕ
query_depth q = max (set_depth q.spansets) (stages_depth q.stages)

-- the printed form is within the limits of a query: its length and its depth
abbrev pub KeepsLimits : QueryTree → Type 0
KeepsLimits q = (length (query_text q) ≤ MOST_QUERY_BYTES) × (query_depth q ≤ DEPTH)

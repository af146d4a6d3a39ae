use Rattle.std.proofs.Common.{take, map}
use Rattle.std.specs.List.{flat_map}
use Rattle.traceql_syntax.specs.Trees.{stage_tree}
use Rattle.traceql_types.specs.Order.{IsFirstOf}
use Rattle.traceql_types.specs.Refusals.{stage_refusals}
use Rattle.traceql_types.proofs.queries.stages_refusal.Given as goal

abbrev pub invariant-loop-stage : goal.invariant-loop-stage
invariant-loop-stage l =
    IsFirstOf (flat_map stage_refusals (map stage_tree (take l.stage-index l.stage-items))) l.first

use Rattle.std.proofs.Common.{◌≡◌, ◌++◌, take, map}
use Rattle.std.specs.List.{flat_map}
use Rattle.traceql_syntax.specs.Trees.{stage_tree}
use Rattle.traceql_types.specs.Asked.{in_stage}
use Rattle.traceql_types.specs.Shown.{shown_all}
use Rattle.traceql_types.proofs.asked.add_stages.Given as goal

abbrev pub invariant-loop-stage : goal.invariant-loop-stage
invariant-loop-stage l =
    shown_all l.found.items
    ≡ shown_all l.fn.found.items ++ flat_map in_stage (map stage_tree (take l.stage-index l.stage-items))

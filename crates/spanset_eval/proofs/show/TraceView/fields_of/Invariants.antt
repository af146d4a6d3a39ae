-- So far the list has what the fields are of the stages that were passed.
use Rattle.std.proofs.Common.{◌≡◌, take, map}
use Rattle.traceql_syntax.specs.Trees.{stage_tree}
use Rattle.traceql_value.specs.Spans.{field_of_span}
use Rattle.spanset_eval.specs.Showing.{view_rows}
use Rattle.spanset_eval.specs.Stages.{selected_fields}
use Rattle.spanset_eval.proofs.show.TraceView.fields_of.Given as goal

abbrev pub invariant-loop-stage : goal.invariant-loop-stage
invariant-loop-stage l =
    l.values.items ≡ map (λ f. field_of_span f (view_rows l.self) l.span) (selected_fields (map stage_tree (take l.stage-index l.stage-items)))

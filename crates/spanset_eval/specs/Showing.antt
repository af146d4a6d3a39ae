-- Private mechanism. What shows a trace: the fields and the rows that it shows.
use Rattle.std.specs.Prelude.{List, map}
use Rattle.span_types.specs.declared.spans.Row.{Row}
use Rattle.traceql_syntax.specs.declared.field.Field.{Field}
use Rattle.traceql_syntax.specs.Trees.{stage_tree}
use Rattle.traceql_value.specs.EvalContexts.{context_rows}
use Rattle.spanset_eval.specs.declared.show.TraceView.{TraceView}
use Rattle.spanset_eval.specs.Stages.{selected_fields}

abbrev pub view_fields : TraceView → List Field
view_fields v = selected_fields (map stage_tree v.stages.now)

abbrev pub view_rows : TraceView → List Row
view_rows v = context_rows v.context.now

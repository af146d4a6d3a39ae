-- So far the list has what the fields are that were passed.
use Rattle.std.proofs.Common.{◌≡◌, ◌++◌, take, map}
use Rattle.traceql_value.specs.Spans.{field_of_span}
use Rattle.spanset_eval.specs.Showing.{view_rows}
use Rattle.spanset_eval.proofs.show.TraceView.add_fields.Given as goal

abbrev pub invariant-loop-field : goal.invariant-loop-field
invariant-loop-field l =
    l.values.items ≡ l.fn.values.items ++ map (λ f. field_of_span f (view_rows l.self) l.span) (take l.field-index l.fields)

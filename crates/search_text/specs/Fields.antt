-- How the fields that a query selects are printed.
use Rattle.std.specs.Prelude.{ℕ, List, map}
use Rattle.traceql_syntax.specs.Trees.{QueryTree}
use Rattle.traceql_print.specs.Text.{field_text}
use Rattle.spanset_eval.specs.Stages.{selected_fields}

-- each selected field in its printed form, in the text's order
unfoldable pub printed_fields : QueryTree → List (List ℕ)
printed_fields q = map field_text (selected_fields q.stages)

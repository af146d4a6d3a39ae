-- What a look-up of a trace answers.
use Rattle.std.specs.Prelude.{◌≡◌, ℕ, List}
use Rattle.span_types.specs.First.{IsFirstOf}
use Rattle.span_types.specs.declared.ids.TraceId.{TraceId}
use Rattle.span_types.specs.declared.spans.Row.{Row}
use Rattle.rows_by_trace.specs.Traces.{rows_of_trace}
use Rattle.query_fanout.specs.declared.trace.TraceAnswer.{TraceAnswer}

-- The first occurrences of the trace's spans among all rows, as of that count.
pub record IsTraceAnswer (id : TraceId) (as_of : ℕ) (rows : List Row) (answer : TraceAnswer) : Type 0 where
  pub count : answer.as_of ≡ as_of
  pub firsts : IsFirstOf (rows_of_trace id rows) answer.rows

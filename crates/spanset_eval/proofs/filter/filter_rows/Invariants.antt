-- So far there is a mark for each row that was passed.
use Rattle.std.proofs.Common.{◌≡◌, take, map}
use Rattle.traceql_value.specs.EvalContexts.{IsSame}
use Rattle.spanset_eval.specs.InContext.{filters_row}
use Rattle.spanset_eval.proofs.filter.filter_rows.Given as goal

abbrev pub invariant-loop-row : goal.invariant-loop-row
invariant-loop-row l = record {
  marks : l.marks.items ≡ map (filters_row l.fn.context l.condition) (take l.row-index l.rows);
  context : IsSame l.fn.context l.context;
}

-- So far the list has the trace's rows among those that were looked at.
use Rattle.std.proofs.Common.{◌≡◌, take}
use Rattle.rows_by_trace.specs.Traces.{rows_of_trace}
use Rattle.rows_by_trace.proofs.traces.copies_of.Given as goal

abbrev pub invariant-loop-row : goal.invariant-loop-row
invariant-loop-row l = l.found.items ≡ rows_of_trace l.id (take l.row-index l.rows)

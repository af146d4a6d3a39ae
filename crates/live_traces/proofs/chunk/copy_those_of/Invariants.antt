-- So far the rows of the trace that were gone over were added.
use Rattle.std.proofs.Common.{◌≡◌, ◌++◌, take}
use Rattle.rows_by_trace.specs.Traces.{rows_of_trace}
use Rattle.live_traces.proofs.chunk.copy_those_of.Given as goal

abbrev pub invariant-loop-row : goal.invariant-loop-row
invariant-loop-row l = l.rows.items ≡ l.fn.rows.items ++ rows_of_trace l.trace (take l.row-index l.shared)

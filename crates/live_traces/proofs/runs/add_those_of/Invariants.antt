-- So far the rows of the trace in the parts that were gone over were added.
use Rattle.std.proofs.Common.{◌≡◌, ◌++◌, take}
use Rattle.std.specs.List.{flat_map}
use Rattle.rows_by_trace.specs.Traces.{rows_of_trace}
use Rattle.live_traces.proofs.runs.add_those_of.Given as goal

abbrev pub invariant-loop-part : goal.invariant-loop-part
invariant-loop-part g l = l.rows.items ≡ l.fn.rows.items ++ rows_of_trace l.trace (flat_map g.T.HasRows.listed (take l.part-index l.parts))

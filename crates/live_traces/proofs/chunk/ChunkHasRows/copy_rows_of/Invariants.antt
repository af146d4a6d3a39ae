-- So far the rows of the spots that were gone over were added.
use Rattle.std.proofs.Common.{◌≡◌, ◌++◌, take}
use Rattle.rows_by_trace.specs.Traces.{rows_of_trace}
use Rattle.live_traces.specs.Rows.{chunk_rows}
use Rattle.live_traces.proofs.chunk.ChunkHasRows.copy_rows_of.Given as goal

abbrev pub invariant-loop-spot : goal.invariant-loop-spot
invariant-loop-spot l = l.rows.items ≡ l.fn.rows.items ++ take l.spot-index (rows_of_trace l.fn.trace (chunk_rows l.self))

-- So far the rows below the counter were added.
use Rattle.std.proofs.Common.{◌≡◌, ◌++◌, take}
use Rattle.live_traces.specs.Rows.{chunk_rows}
use Rattle.live_traces.proofs.chunk.ChunkHasRows.lend_rows.Given as goal

abbrev pub invariant-loop-at : goal.invariant-loop-at
invariant-loop-at l = l.rows.items ≡ l.fn.rows.items ++ take l.at (chunk_rows l.self)

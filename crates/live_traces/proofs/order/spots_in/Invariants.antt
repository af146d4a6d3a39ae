-- So far there are the spots of the rows below the counter.
use Rattle.std.proofs.Common.{◌≡◌, take}
use Rattle.live_traces.specs.Rows.{ChunkParts, chunk_rows}
use Rattle.live_traces.specs.Order.{AreSpotsOf}
use Rattle.live_traces.proofs.order.spots_in.Given as goal

abbrev pub invariant-loop-at : goal.invariant-loop-at
invariant-loop-at l = (c : ChunkParts) → c.spans ≡ l.batch.spans → AreSpotsOf (chunk_rows c) l.spots.items (take l.at (chunk_rows c))

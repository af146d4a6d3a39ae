-- So far the rows that were gone over stand where they belong.
use Rattle.std.proofs.Common.{◌≡◌, ◌++◌, take, filter, not}
use Rattle.live_traces.specs.Going.{row_goes}
use Rattle.live_traces.proofs.cut.sift.Given as goal

abbrev pub invariant-loop-row : goal.invariant-loop-row
invariant-loop-row l = record {
  moved : l.moved.items ≡ l.fn.moved.items ++ filter (row_goes l.idle l.last) (take l.row-index l.rows);
  stay : l.stay.items ≡ filter (λ row. not (row_goes l.idle l.last row)) (take l.row-index l.rows);
}

-- So far it is the least number of what was gone over.
use Rattle.std.proofs.Common.{◌≡◌, take}
use Rattle.live_traces.specs.Parts.{least_with}
use Rattle.live_traces.proofs.live.least_of_rows.Given as goal

abbrev pub invariant-loop-row : goal.invariant-loop-row
invariant-loop-row l = l.least ≡ least_with l.fn.found (take l.row-index l.rows)

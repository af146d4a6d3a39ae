-- So far it is the least number of what was gone over.
use Rattle.std.proofs.Common.{◌≡◌, take}
use Rattle.live_traces.specs.Rows.{run_rows}
use Rattle.live_traces.specs.Parts.{least_with}
use Rattle.live_traces.proofs.live.least_of_runs.Given as goal

abbrev pub invariant-loop-run : goal.invariant-loop-run
invariant-loop-run l = l.least ≡ least_with l.fn.found (run_rows (take l.run-index l.runs))

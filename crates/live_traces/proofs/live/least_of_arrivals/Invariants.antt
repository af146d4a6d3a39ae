-- So far it is the least number of what was gone over.
use Rattle.std.proofs.Common.{◌≡◌, take}
use Rattle.store_model.specs.State.{live_rows}
use Rattle.live_traces.specs.Parts.{least_with, arrivals_of}
use Rattle.live_traces.proofs.live.least_of_arrivals.Given as goal

abbrev pub invariant-loop-arrival : goal.invariant-loop-arrival
invariant-loop-arrival l = l.least ≡ least_with l.fn.found (live_rows (arrivals_of (take l.arrival-index l.arrivals)))

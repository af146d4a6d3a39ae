-- So far it is the least number of what was gone over.
use Rattle.std.proofs.Common.{◌≡◌, take}
use Rattle.store_model.specs.State.{live_rows}
use Rattle.live_traces.specs.Parts.{least_with, live_of}
use Rattle.live_traces.proofs.live.least_of_entries.Given as goal

abbrev pub invariant-loop-entry : goal.invariant-loop-entry
invariant-loop-entry l = l.least ≡ least_with l.fn.found (live_rows (live_of (take l.entry-index l.entries)))

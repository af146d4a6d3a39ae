-- So far there are the rows of the entries that were gone over.
use Rattle.std.proofs.Common.{◌≡◌, take}
use Rattle.store_model.specs.State.{live_rows}
use Rattle.live_traces.specs.Rows.{run_rows}
use Rattle.live_traces.specs.Parts.{live_of}
use Rattle.live_traces.proofs.live.rests_of.Given as goal

abbrev pub invariant-loop-entry : goal.invariant-loop-entry
invariant-loop-entry l = run_rows l.rests.items ≡ live_rows (live_of (take l.entry-index l.entries))

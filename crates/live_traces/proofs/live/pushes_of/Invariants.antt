-- So far there are the pushes that were gone over.
use Rattle.std.proofs.Common.{◌≡◌, take}
use Rattle.store_model.specs.State.{live_rows}
use Rattle.live_traces.specs.Rows.{push_rows}
use Rattle.live_traces.specs.Parts.{arrivals_of}
use Rattle.live_traces.proofs.live.pushes_of.Given as goal

abbrev pub invariant-loop-arrival : goal.invariant-loop-arrival
invariant-loop-arrival l = push_rows l.pushes.items ≡ live_rows (arrivals_of (take l.arrival-index l.arrivals))

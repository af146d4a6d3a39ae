-- So far the arrivals that were gone over were added.
use Rattle.std.proofs.Common.{◌≡◌, ◌++◌, take}
use Rattle.live_traces.specs.Parts.{live_of, arrivals_of}
use Rattle.live_traces.proofs.cut.explode.Given as goal

abbrev pub invariant-loop-arrival : goal.invariant-loop-arrival
invariant-loop-arrival l = live_of l.all.items ≡ live_of l.fn.all.items ++ arrivals_of (take l.arrival-index l.arrivals)

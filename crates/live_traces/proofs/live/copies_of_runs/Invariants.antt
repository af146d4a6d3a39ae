-- So far there are the runs that were gone over.
use Rattle.std.proofs.Common.{◌≡◌, take}
use Rattle.live_traces.proofs.live.copies_of_runs.Given as goal

abbrev pub invariant-loop-run : goal.invariant-loop-run
invariant-loop-run l = l.all.items ≡ take l.run-index l.runs

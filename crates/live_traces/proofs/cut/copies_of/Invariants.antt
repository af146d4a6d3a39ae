-- So far there are the entries that were gone over.
use Rattle.std.proofs.Common.{◌≡◌, take}
use Rattle.live_traces.specs.Parts.{live_of}
use Rattle.live_traces.proofs.cut.copies_of.Given as goal

abbrev pub invariant-loop-entry : goal.invariant-loop-entry
invariant-loop-entry l = live_of l.all.items ≡ live_of (take l.entry-index l.entries)

use Rattle.std.proofs.Common.{◌≡◌, drop}
use Rattle.disk_model.specs.History.{state_of}
use Rattle.disk_model.proofs.history.held_of.Given as goal

-- the file's state is that in the rest of the list
abbrev pub invariant-loop-entry : goal.invariant-loop-entry
invariant-loop-entry l = state_of (drop l.entry-index l.files) l.file ≡ state_of l.files l.file

use Rattle.std.proofs.Common.{◌≡◌, take}
use Rattle.disk_model.specs.History.{unchanged}
use Rattle.disk_model.specs.Picks.{picked_image}
use Rattle.disk_model.proofs.history.picked_files.Given as goal

-- the files so far are picked, and held
abbrev pub invariant-loop-entry : goal.invariant-loop-entry
invariant-loop-entry l = record {
  picked : l.image.items ≡ picked_image l.pick (take l.entry-index l.files);
  held : l.held.items ≡ unchanged l.image.items;
}

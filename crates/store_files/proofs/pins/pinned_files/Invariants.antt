-- So far the files have those of the pins that were passed.
use Rattle.std.proofs.Common.{◌≡◌, take}
use Rattle.std.specs.List.{flat_map}
use Rattle.store_files.specs.Pins.{files_in}
use Rattle.store_files.proofs.pins.pinned_files.Given as goal

abbrev pub invariant-loop-pin : goal.invariant-loop-pin
invariant-loop-pin l = l.files.items ≡ flat_map files_in (take l.pin-index l.pins)

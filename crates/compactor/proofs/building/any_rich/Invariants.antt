-- The parts so far have no row with an event or a link.
use Rattle.std.proofs.Common.{◌≡◌, take}
use Rattle.block_format.specs.Blocks.{form_of_rows}
use Rattle.compactor.proofs.JoinLaws.{flat}
use Rattle.compactor.proofs.building.any_rich.Given as goal

abbrev pub invariant-loop-part : goal.invariant-loop-part
invariant-loop-part l = form_of_rows (flat (take l.part-index l.parts)) ≡ 1

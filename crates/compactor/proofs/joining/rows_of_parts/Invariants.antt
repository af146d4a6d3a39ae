-- The parts so far.
use Rattle.std.proofs.Common.{◌≡◌, take}
use Rattle.compactor.proofs.joining.rows_of_parts.Given as goal

abbrev pub invariant-loop-part : goal.invariant-loop-part
invariant-loop-part l = l.lefts.items ≡ take l.part-index l.parts

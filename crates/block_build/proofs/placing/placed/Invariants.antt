-- The stripes before the index are placed.
use Rattle.block_build.proofs.PlaceLaws.{IsPlacing}
use Rattle.block_build.proofs.placing.placed.Given as goal

abbrev pub invariant-loop-index : goal.invariant-loop-index
invariant-loop-index l = IsPlacing l.first l.stripes l.index l.page l.found.items

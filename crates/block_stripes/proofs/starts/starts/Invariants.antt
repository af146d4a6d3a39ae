-- The starts so far are those of the cells so far.
use Rattle.std.proofs.Common.{◌≡◌, map, take}
use Rattle.block_stripes.specs.StripeStarts.{start_of}
use Rattle.block_stripes.proofs.starts.starts.Given as goal

abbrev pub invariant-loop-one : goal.invariant-loop-one
invariant-loop-one l = l.starts.items ≡ map start_of (take l.one-index l.cells)

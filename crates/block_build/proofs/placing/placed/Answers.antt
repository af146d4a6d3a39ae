use Rattle.std.proofs.Common.{arith}
use Rattle.block_build.proofs.PlaceLaws.{counted_at, placing_begins}
use Rattle.block_build.proofs.placing.placed.Goals as goal

pub loop-index-init : goal.loop-index-init
loop-index-init c = placing_begins c.args.first c.args.stripes.now c.in_ok-found.found.items c.requires c.in_ok-found.ensures.items

pub has_room-requires : goal.has_room-requires
has_room-requires c = c.loop-index.invariant.near

pub returns-then-not-has_rows-clause-some : goal.returns-then-not-has_rows-clause-some
returns-then-not-has_rows-clause-some c = λ counted.
    absurd (c.has_rows.ensures.other c.if-not-has_rows.true (counted_at c.args.stripes.now c.loop-index.index _ (omega arith) counted))

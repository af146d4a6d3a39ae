use Rattle.std.proofs.Common.{arith}
use Rattle.block_build.proofs.Moments.{earliest_ends, earliest_more}
use Rattle.block_build.proofs.rows.earliest.Goals as goal

pub loop-row-preserved : goal.loop-row-preserved
loop-row-preserved c =
    earliest_more c.args.rows.now c.loop-row.row-index c.loop-row.earliest c.min-earliest.result c.row-item.result (omega (arith, c.loop-row-test.true)) c.row-item.is (omega (arith, c.min-earliest.ensures, c.start_of.ensures)) c.loop-row.invariant

pub returns : goal.returns
returns c = earliest_ends c.args.rows.now c.loop-row.row-index c.loop-row.earliest (omega (arith, c.loop-row-test.false)) c.loop-row.invariant

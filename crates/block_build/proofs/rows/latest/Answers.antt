use Rattle.std.proofs.Common.{arith}
use Rattle.block_build.proofs.Moments.{latest_ends, latest_more}
use Rattle.block_build.proofs.rows.latest.Goals as goal

pub loop-row-preserved : goal.loop-row-preserved
loop-row-preserved c =
    latest_more c.args.rows.now c.loop-row.row-index c.loop-row.latest c.max-latest.result c.row-item.result (omega (arith, c.loop-row-test.true)) c.row-item.is (omega (arith, c.max-latest.ensures, c.start_of.ensures)) c.loop-row.invariant

pub returns : goal.returns
returns c = latest_ends c.args.rows.now c.loop-row.row-index c.loop-row.latest (omega (arith, c.loop-row-test.false)) c.loop-row.invariant

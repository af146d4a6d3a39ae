use Rattle.std.proofs.Common.{sym, arith, ◌∙◌}
use Rattle.block_stripes.proofs.ReadSteps.{ascend_more}
use Rattle.block_stripes.proofs.rows.ascend.Goals as goal

pub loop-row-preserved : goal.loop-row-preserved
loop-row-preserved c = ascend_more c.loop-row.before.now c.row-item.result _ c.loop-row.row-index _ (omega (arith, c.loop-row-test.true)) c.row-item.is (sym c.is_before.ensures ∙ c.if-not-is_before.false) c.loop-row.invariant

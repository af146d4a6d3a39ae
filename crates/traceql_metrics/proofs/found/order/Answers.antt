use Rattle.std.proofs.Common.{◌∙◌, arith, sym}
use Rattle.traceql_metrics.proofs.Orders.{values_end}
use Rattle.traceql_metrics.proofs.found.order.Goals as goal

pub returns : goal.returns
returns c = c.cmp.ensures ∙ sym (c.loop-i.invariant ∙ values_end c.args.left.now c.args.right.now c.loop-i.i (omega (arith, c.min-common.ensures)))

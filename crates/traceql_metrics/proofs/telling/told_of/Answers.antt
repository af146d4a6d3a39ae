use Rattle.std.proofs.Common.{arith}
use Rattle.traceql_metrics.specs.Series.{IsCount}
use Rattle.traceql_metrics.proofs.Zips.{zip_more}
use Rattle.traceql_metrics.proofs.telling.told_of.Goals as goal

pub loop-count-preserved : goal.loop-count-preserved
loop-count-preserved c =
    zip_more (IsCount c.args.rate c.args.step) c.args.counts.now c.loop-count.values.items c.push.new.self.items c.loop-count.count-index 0 c.told.result
    (omega arith) c.loop-count.invariant c.told.ensures c.in_ok-push.ensures.items

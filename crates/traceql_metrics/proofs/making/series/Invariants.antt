-- So far there are the series of the heads below the index.
use Rattle.std.proofs.Common.{take}
use Rattle.std.specs.List.{AllZip}
use Rattle.traceql_metrics.proofs.Whole.{IsSeriesOf}
use Rattle.traceql_metrics.proofs.making.series.Given as goal

abbrev pub invariant-loop-head : goal.invariant-loop-head
invariant-loop-head l = AllZip (IsSeriesOf l.found.items l.start l.end l.step l.rate) (take l.head-index l.head-items) l.all.items

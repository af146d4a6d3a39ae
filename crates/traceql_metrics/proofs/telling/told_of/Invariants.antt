-- So far what is told of the buckets below the index.
use Rattle.std.proofs.Common.{take}
use Rattle.std.specs.List.{AllZip}
use Rattle.traceql_metrics.specs.Series.{IsCount}
use Rattle.traceql_metrics.proofs.telling.told_of.Given as goal

abbrev pub invariant-loop-count : goal.invariant-loop-count
invariant-loop-count l = AllZip (IsCount l.rate l.step) (take l.count-index l.counts) l.values.items

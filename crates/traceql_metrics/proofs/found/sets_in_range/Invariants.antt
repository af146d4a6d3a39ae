-- So far there are those of the traces below the index.
use Rattle.std.proofs.Common.{◌≡◌, filter, take}
use Rattle.traceql_metrics.specs.Series.{begins_in, sets_of}
use Rattle.traceql_metrics.proofs.found.sets_in_range.Given as goal

abbrev pub invariant-loop-trace : goal.invariant-loop-trace
invariant-loop-trace l = l.found.items ≡ filter (begins_in l.steps.start l.steps.end) (sets_of (take l.trace-index l.trace-items))

-- So far those below the index were added.
use Rattle.std.proofs.Common.{◌≡◌, ◌++◌, filter, take}
use Rattle.traceql_metrics.specs.Series.{begins_in}
use Rattle.traceql_metrics.proofs.found.add_those_in_range.Given as goal

abbrev pub invariant-loop-set : goal.invariant-loop-set
invariant-loop-set l = l.found.items ≡ l.fn.found.items ++ filter (begins_in l.steps.start l.steps.end) (take l.set-index l.sets)

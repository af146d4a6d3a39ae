-- So far those of the spansets below the index are there.
use Rattle.std.proofs.Common.{◌≡◌, take}
use Rattle.std.specs.List.{flat_map}
use Rattle.traceql_metrics.specs.Series.{starts_of}
use Rattle.traceql_metrics.proofs.making.moments_of.Given as goal

abbrev pub invariant-loop-found : goal.invariant-loop-found
invariant-loop-found l = l.moments.items ≡ flat_map starts_of (take l.found-index l.group)

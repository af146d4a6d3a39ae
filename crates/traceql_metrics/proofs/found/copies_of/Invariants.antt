-- So far there are those below the index.
use Rattle.std.proofs.Common.{◌≡◌, take}
use Rattle.traceql_metrics.proofs.found.copies_of.Given as goal

abbrev pub invariant-loop-one : goal.invariant-loop-one
invariant-loop-one l = l.copies.items ≡ take l.one-index l.found

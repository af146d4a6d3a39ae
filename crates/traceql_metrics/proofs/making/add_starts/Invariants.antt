-- So far those of the spans below the index were added.
use Rattle.std.proofs.Common.{◌≡◌, ◌++◌, map, take}
use Rattle.traceql_metrics.proofs.making.add_starts.Given as goal

abbrev pub invariant-loop-hit : goal.invariant-loop-hit
invariant-loop-hit l = l.moments.items ≡ l.fn.moments.items ++ map (λ hit. hit.start) (take l.hit-index l.hits)

-- The traces before the ones that are left were gone over, and what is found are their first results.
use Rattle.std.proofs.Common.{◌<◌, length}
use Rattle.traceql_syntax.specs.Trees.{query_tree}
use Rattle.trace_fanout.proofs.Firsts.{GoneOver}
use Rattle.trace_fanout.proofs.windows.first_results.Given as goal

abbrev pub invariant-loop-rest : goal.invariant-loop-rest
invariant-loop-rest g l = record {
  over : GoneOver l.checked.patterns (query_tree l.checked.query) l.bounds l.traces l.rest l.found.items;
  some : 0 < l.size;
}

abbrev pub decreases-loop-rest : goal.decreases-loop-rest
decreases-loop-rest g l = length l.rest

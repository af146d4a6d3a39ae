-- All that the traces so far answer is shown.
use Rattle.std.proofs.Common.{◌≡◌, take}
use Rattle.traceql_syntax.specs.Trees.{query_tree}
use Rattle.traceql_value.specs.EvalContexts.{matchers_patterns}
use Rattle.search_answer.proofs.Shown.{SoFar}
use Rattle.search_answer.proofs.results.first_results.Given as goal

abbrev pub invariant-loop-trace : goal.invariant-loop-trace
invariant-loop-trace l = record {
  shown : SoFar l.checked.patterns (query_tree l.checked.query) l.bounds (take l.trace-index l.traces) l.found.items;
  patterns : matchers_patterns l.matchers ≡ l.checked.patterns;
}

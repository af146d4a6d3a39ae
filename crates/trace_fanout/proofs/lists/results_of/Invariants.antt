-- So far the results are what the traces that were gone over answer.
use Rattle.std.proofs.Common.{◌≡◌, take}
use Rattle.traceql_syntax.specs.Trees.{query_tree}
use Rattle.traceql_value.specs.EvalContexts.{matchers_patterns}
use Rattle.search_answer.specs.Parts.{Answers}
use Rattle.trace_fanout.proofs.lists.results_of.Given as goal

abbrev pub invariant-loop-trace : goal.invariant-loop-trace
invariant-loop-trace l = record {
  answers : Answers l.checked.patterns (query_tree l.checked.query) (take l.trace-index l.traces) l.found.items;
  patterns : matchers_patterns l.matchers ≡ l.checked.patterns;
}

use Rattle.std.proofs.Common.{◌∙◌, List, arith, subst}
use Rattle.std.proofs.lemmas.List.{take_all}
use Rattle.span_types.specs.declared.spans.Row.{Row}
use Rattle.spanset_eval.specs.Outcomes.{IsOutcome}
use Rattle.traceql_syntax.specs.Trees.{query_tree}
use Rattle.search_answer.specs.Parts.{Answers}
use Rattle.trace_fanout.proofs.Each.{next_trace}
use Rattle.trace_fanout.proofs.lists.results_of.Goals as goal

pub loop-trace-preserved : goal.loop-trace-preserved
loop-trace-preserved c =
    let ps = c.args.checked.now.patterns in
    let q = query_tree c.args.checked.now.query in
    let is = rw c.in_ok-outcome.was at c.outcome_of-outcome.ensures.outcome in
    record {
      answers = next_trace ps q c.args.traces.now c.loop-trace.trace-index c.trace-item.result c.loop-trace.found.items c.extend.new.all.items c.in_ok-outcome.field-0 c.loop-trace-test.true
          (subst (λ (t : List Row). IsOutcome ps t q c.in_ok-outcome.field-0) c.trace-item.is is) c.in_ok-extend.ensures c.loop-trace.invariant.answers;
      patterns = c.outcome_of-outcome.ensures.matchers ∙ c.loop-trace.invariant.patterns;
    }

pub returns : goal.returns
returns c =
    subst (λ ts. Answers c.args.checked.now.patterns (query_tree c.args.checked.now.query) ts c.loop-trace.found.items) (take_all c.loop-trace.trace-index c.args.traces.now (omega arith))
    c.loop-trace.invariant.answers

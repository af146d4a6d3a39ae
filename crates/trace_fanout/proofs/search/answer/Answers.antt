use Rattle.std.proofs.Common.{All, subst, sym}
use Rattle.span_tree.specs.Nodes.{IsOneTrace}
use Rattle.traceql_syntax.specs.Trees.{query_tree}
use Rattle.search_answer.specs.declared.traces.TraceInRange.{TraceInRange}
use Rattle.search_answer.specs.Answers.{IsAnswer}
use Rattle.search_answer.specs.InRange.{rows_of_each}
use Rattle.search_answer.specs.Parts.{AreFirstAnswers}
use Rattle.search_answer.proofs.Firsts.{firsts_are_sorted}
use Rattle.search_answer.proofs.InRangeLaws.{each_one_trace, reordered}
use Rattle.search_answer.proofs.PartLaws.{ranked_answer}
use Rattle.trace_fanout.proofs.search.answer.Goals as goal

pub first_results-requires-after_bounds : goal.first_results-requires-after_bounds
first_results-requires-after_bounds g c κs within =
    let rows = c.args.rows.now in
    let ranked = c.rank_traces-traces.result.items in
    subst (All (λ (t : TraceInRange). IsOneTrace t.rows.now)) (sym c.as_slice.ensures.value)
    (each_one_trace c.args.range rows ranked (firsts_are_sorted c.requires.0 rows c.requires.1)
    (reordered c.args.range rows c.in_ok-found.found.items ranked c.rank_traces-traces.ensures.same c.in_ok-found.ensures))

pub returns : goal.returns
returns g c =
    let rows = c.args.rows.now in
    let ps = c.args.checked.now.patterns in
    let q = query_tree c.args.checked.now.query in
    let bounds = c.args.bounds in
    let ranked = c.rank_traces-traces.result.items in
    subst (IsAnswer ps q c.args.range bounds.limit bounds.spans_per_set rows) (sym c.of.ensures)
    (ranked_answer ps q c.args.range bounds rows ranked c.in_ok-results.results.items
    (reordered c.args.range rows c.in_ok-found.found.items ranked c.rank_traces-traces.ensures.same c.in_ok-found.ensures) c.rank_traces-traces.ensures.sorted
    (subst (λ ts. AreFirstAnswers ps q bounds (rows_of_each ts) c.in_ok-results.results.items) c.as_slice.ensures.value c.in_ok-results.ensures))

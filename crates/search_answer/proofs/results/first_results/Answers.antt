use Rattle.std.proofs.Common.{◌≤◌, ◌<◌, ◌∙◌, Some, arith, length, subst}
use Rattle.spanset_eval.specs.Outcomes.{IsCutOutcome}
use Rattle.traceql_syntax.specs.Trees.{query_tree}
use Rattle.search_answer.specs.declared.traces.TraceInRange.{TraceInRange}
use Rattle.search_answer.proofs.Shown.{enough_shown, next_one}
use Rattle.search_answer.proofs.results.first_results.Goals as goal

pub returns-then-len-bounds : goal.returns-then-len-bounds
returns-then-len-bounds c =
    let full : c.args.bounds.limit ≤ length c.loop-trace.found.items = omega (arith, c.if-len-bounds.true, c.len.ensures) in
    enough_shown c.args.checked.now.patterns (query_tree c.args.checked.now.query) c.args.bounds c.args.traces.now c.loop-trace.trace-index c.loop-trace.found.items c.requires.one full
    c.loop-trace.invariant.shown

pub loop-trace-preserved : goal.loop-trace-preserved
loop-trace-preserved c =
    let ps = c.args.checked.now.patterns in
    let q = query_tree c.args.checked.now.query in
    let outcome = rw c.in_ok-more.was at c.evaluate_rows-more.ensures.outcome in
    let room : length c.loop-trace.found.items < c.args.bounds.limit = omega (arith, c.if-len-bounds.false, c.len.ensures) in
    record {
      shown = next_one ps q c.args.bounds c.args.traces.now c.loop-trace.trace-index c.trace-item.result c.loop-trace.found.items c.extend.new.all.items c.in_ok-more.field-0 c.loop-trace-test.true
          (subst (λ (t : TraceInRange). IsCutOutcome (Some c.args.bounds.spans_per_set) ps t.rows.now q c.in_ok-more.field-0) c.trace-item.is outcome)
          c.in_ok-extend.ensures room c.loop-trace.invariant.shown;
      patterns = c.evaluate_rows-more.ensures.matchers ∙ c.loop-trace.invariant.patterns;
    }

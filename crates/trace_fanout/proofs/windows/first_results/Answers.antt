use Rattle.std.proofs.Common.{◌≡◌, ◌-◌, ◌<◌, ◌≤◌, ◌∙◌, All, ap, arith, length, subst, sym}
use Rattle.std.proofs.lemmas.List.Elements.{All-take}
use Rattle.span_tree.specs.Nodes.{IsOneTrace}
use Rattle.traceql_syntax.specs.Trees.{query_tree}
use Rattle.search_answer.specs.declared.bounds.Bounds.{Bounds}
use Rattle.search_answer.specs.declared.traces.TraceInRange.{TraceInRange}
use Rattle.trace_fanout.proofs.Firsts.{enough, first_window, next_window, no_rest, none_left, one_each, some_rest}
use Rattle.trace_fanout.proofs.windows.first_results.Goals as goal

pub loop-rest-init : goal.loop-rest-init
loop-rest-init g c = record {
  over = first_window c.args.checked.now.patterns (query_tree c.args.checked.now.query) c.args.bounds c.args.traces.now c.split_at.result.0.now c.split_at.result.1.now c.min.result c.in_ok-found.found.items
      c.split_at.ensures.front c.split_at.ensures.back c.in_ok-found.ensures;
  some = omega arith;
}

pub window_results-requires-after_bounds : goal.window_results-requires-after_bounds
window_results-requires-after_bounds g c κs within =
    let rest = c.loop-rest.rest.now in
    let one = one_each c.args.checked.now.patterns (query_tree c.args.checked.now.query) c.args.bounds c.args.traces.now rest c.loop-rest.found.items c.requires c.loop-rest.invariant.over in
    subst (All (λ (t : TraceInRange). IsOneTrace t.rows.now)) (sym c.split_at-in-loop-rest.ensures.front) (All-take (λ (t : TraceInRange). IsOneTrace t.rows.now) c.min-in-loop-rest.result rest one)

pub loop-rest-preserved : goal.loop-rest-preserved
loop-rest-preserved g c =
    let bounds = c.args.bounds in
    let found = c.loop-rest.found.items in
    let room : length found < bounds.limit = omega (arith, c.if-len-bounds.false, c.len.ensures) in
    let count : c.len-in-loop-rest.result ≡ length found = omega (arith, c.len-in-loop-rest.ensures) in
    let left = c.left_of-left.ensures ∙ ap (λ n. let b : Bounds = record { limit = bounds.limit - n; spans_per_set = bounds.spans_per_set } in b) count in
    record {
      over = next_window c.args.checked.now.patterns (query_tree c.args.checked.now.query) bounds c.left_of-left.result c.args.traces.now c.loop-rest.rest.now
          c.split_at-in-loop-rest.result.0.now c.split_at-in-loop-rest.result.1.now c.min-in-loop-rest.result found c.in_ok-more.more.items c.append.new.self.items
          left room c.split_at-in-loop-rest.ensures.front c.split_at-in-loop-rest.ensures.back c.in_ok-more.ensures c.in_ok-append.ensures.items c.loop-rest.invariant.over;
      some = omega (arith, c.saturating_mul-size.ensures, c.loop-rest.invariant.some);
    }

pub loop-rest-smaller : goal.loop-rest-smaller
loop-rest-smaller g c =
    let some = some_rest c.loop-rest.rest.now (sym c.is_empty.ensures ∙ c.loop-rest-test.true) in
    omega (arith, some, c.split_at-in-loop-rest.ensures.back_len, c.min-in-loop-rest.ensures, c.saturating_mul-size.ensures, c.loop-rest.invariant.some)

pub returns-then-len-bounds : goal.returns-then-len-bounds
returns-then-len-bounds g c =
    let full : c.args.bounds.limit ≤ length c.loop-rest.found.items = omega (arith, c.if-len-bounds.true, c.len.ensures) in
    enough c.args.checked.now.patterns (query_tree c.args.checked.now.query) c.args.bounds c.args.traces.now c.loop-rest.rest.now c.loop-rest.found.items c.requires full c.loop-rest.invariant.over

pub returns : goal.returns
returns g c =
    none_left c.args.checked.now.patterns (query_tree c.args.checked.now.query) c.args.bounds c.args.traces.now c.loop-rest.rest.now c.loop-rest.found.items
    (no_rest c.loop-rest.rest.now (sym c.is_empty.ensures ∙ c.loop-rest-test.false)) c.loop-rest.invariant.over

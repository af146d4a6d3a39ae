use Rattle.std.proofs.Common.{rules, ap, subst, sym, ◌∙◌}
use Rattle.std.specs.Ordering.{is_lt}
use Rattle.std.proofs.lemmas.List.Sorted.{answers_always, ranks_by}
use Rattle.span_types.specs.declared.spans.Row.{Row}
use Rattle.span_types.specs.Orders.{trace_cmp}
use Rattle.rows_by_trace.specs.Traces.{rows_of_trace}
use Rattle.live_traces.specs.ByTrace.{AreByTrace}
use Rattle.live_traces.proofs.Groups.{groups_kept, trace_cmp_total}
use Rattle.compactor.proofs.merge.by_trace.Goals as goal

pub returns-clause-sorted : goal.returns-clause-sorted
returns-clause-sorted c =
    subst AreByTrace (sym c.of.ensures)
    (c.in_ok-sort_by.ensures.sorted (λ (a b : Row). is_lt (trace_cmp a.span.trace b.span.trace)) (ranks_by trace_cmp_total (λ (r : Row). r.span.trace)) (answers_always _ _ _ (λ f a r g h. search rules)))

pub returns-clause-groups : goal.returns-clause-groups
returns-clause-groups c = λ t.
    ap (rows_of_trace t) c.of.ensures
    ∙ groups_kept (λ (r : Row). r.span.trace) c.into_vec-rows.result.items c.sort_by.new.self.items t
    (c.in_ok-sort_by.ensures.stable (λ (a b : Row). is_lt (trace_cmp a.span.trace b.span.trace)) (ranks_by trace_cmp_total (λ (r : Row). r.span.trace)) (answers_always _ _ _ (λ f a r g h. search rules)))
    c.in_ok-sort_by.ensures.permutation
    ∙ ap (rows_of_trace t) c.into_vec-rows.ensures

use Rattle.std.proofs.Common.{rules, of_calls}
use Rattle.std.specs.Ordering.{is_lt}
use Rattle.std.proofs.lemmas.List.Sorted.{answers_always, ranks_by}
use Rattle.span_types.specs.Orders.{trace_cmp}
use Rattle.live_traces.proofs.Groups.{groups_kept, trace_cmp_total}
use Rattle.live_traces.proofs.group.sort_by_trace.Goals as goal

pub returns-clause-sorted : goal.returns-clause-sorted
returns-clause-sorted g c =
    let key = g.T.OfTrace.trace_of in
    c.in_ok-sort_by.ensures.sorted (λ a b. is_lt (trace_cmp (key a) (key b))) (ranks_by trace_cmp_total key) (answers_always _ _ _ (λ f a r h k. search (rules, of_calls)))

pub returns-clause-groups : goal.returns-clause-groups
returns-clause-groups g c = λ t.
    let key = g.T.OfTrace.trace_of in
    groups_kept key c.args.items.now.items c.sort_by.new.self.items t
    (c.in_ok-sort_by.ensures.stable (λ a b. is_lt (trace_cmp (key a) (key b))) (ranks_by trace_cmp_total key) (answers_always _ _ _ (λ f a r h k. search (rules, of_calls))))
    c.in_ok-sort_by.ensures.permutation

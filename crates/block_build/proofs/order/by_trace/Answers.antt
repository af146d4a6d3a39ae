use Rattle.std.proofs.Common.{rules, ap, ◌∙◌}
use Rattle.std.specs.Ordering.{is_lt}
use Rattle.std.proofs.lemmas.List.Sorted.{answers_always, ranks_by}
use Rattle.span_types.specs.First.{first_at}
use Rattle.block_build.proofs.Settling.{by_trace, by_trace_total, first_kept, trace_ties}
use Rattle.block_build.proofs.order.by_trace.Goals as goal

pub returns-clause-sorted : goal.returns-clause-sorted
returns-clause-sorted c = c.in_ok-sort_by.ensures.sorted (λ a b. is_lt (by_trace a b)) (ranks_by by_trace_total (λ r. r)) (answers_always _ _ _ (λ f a r g h. search rules))

pub returns-clause-same : goal.returns-clause-same
returns-clause-same c = λ k.
    first_kept by_trace by_trace_total trace_ties c.in_ok-tickets.tickets.items c.sort_by.new.self.items
    (c.in_ok-sort_by.ensures.stable (λ a b. is_lt (by_trace a b)) (ranks_by by_trace_total (λ r. r)) (answers_always _ _ _ (λ f a r g h. search rules))) k
    ∙ ap (first_at k) c.in_ok-tickets.ensures

use Rattle.std.proofs.Common.{rules}
use Rattle.std.specs.Ordering.{is_lt}
use Rattle.std.proofs.lemmas.List.Sorted.{answers_always, ranks_by}
use Rattle.traceql_metrics.specs.Grouping.{by_of}
use Rattle.traceql_metrics.specs.Series.{values_cmp}
use Rattle.traceql_metrics.proofs.Orders.{values_total}
use Rattle.traceql_metrics.proofs.found.sets_in_order.Goals as goal

pub returns-clause-sorted : goal.returns-clause-sorted
returns-clause-sorted c = c.sort_unstable_by.ensures.sorted (λ a b. is_lt (values_cmp (by_of a) (by_of b))) (ranks_by values_total by_of) (answers_always _ _ _ (λ f a r g h. search rules))

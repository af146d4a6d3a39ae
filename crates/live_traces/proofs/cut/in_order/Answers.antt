use Rattle.std.proofs.Common.{rules}
use Rattle.std.specs.Ordering.{is_lt}
use Rattle.std.proofs.lemmas.List.Sorted.{ranks_by, answers_always}
use Rattle.store_model.specs.Cut.{cut_order}
use Rattle.live_traces.proofs.CutOrder.{cut_order_total}
use Rattle.live_traces.proofs.cut.in_order.Goals as goal

pub returns-clause-order : goal.returns-clause-order
returns-clause-order c = c.sort_unstable_by.ensures.sorted (λ a b. is_lt (cut_order a b)) (ranks_by cut_order_total (λ r. r)) (answers_always _ _ _ (λ f a r g h. search rules))

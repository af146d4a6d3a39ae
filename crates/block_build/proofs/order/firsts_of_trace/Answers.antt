use Rattle.std.proofs.Common.{List, ap, rules, subst, ◌∙◌}
use Rattle.std.specs.List.Sorted.{IsPermutation}
use Rattle.std.specs.Ordering.{is_lt}
use Rattle.std.proofs.lemmas.List.Sorted.{answers_always, ranks_by}
use Rattle.span_types.specs.declared.spans.Row.{Row}
use Rattle.span_types.specs.Orders.{block_order}
use Rattle.span_types.proofs.FirstLaws.{block_order_total}
use Rattle.block_build.specs.Settling.{firsts_by_id, id_order}
use Rattle.block_build.proofs.Settling.{id_order_total, settled}
use Rattle.block_build.proofs.order.firsts_of_trace.Goals as goal

pub returns : goal.returns
returns c =
    let sorted = c.sort_by.new.self.items in
    let out = c.sort_by-2.new.self.items in
    settled c.args.group.now.items sorted out
    (c.in_ok-sort_by.ensures.stable (λ a b. is_lt (id_order a b)) (ranks_by id_order_total (λ r. r)) (answers_always _ _ _ (λ f a r g h. search rules)))
    (c.in_ok-sort_by.ensures.sorted (λ a b. is_lt (id_order a b)) (ranks_by id_order_total (λ r. r)) (answers_always _ _ _ (λ f a r g h. search rules)))
    (subst (λ (l : List Row). IsPermutation l out) (c.in_ok-firsts.ensures ∙ ap firsts_by_id c.as_slice.ensures.value) c.in_ok-sort_by-2.ensures.permutation)
    (c.in_ok-sort_by-2.ensures.sorted (λ a b. is_lt (block_order a b)) (ranks_by block_order_total (λ r. r)) (answers_always _ _ _ (λ f a r g h. search rules)))

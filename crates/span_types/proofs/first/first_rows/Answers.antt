use Rattle.std.proofs.Common.{rules, sym, subst}
use Rattle.std.specs.BTreeMap.{values}
use Rattle.std.specs.Ordering.{is_lt}
use Rattle.std.specs.List.Sorted.{IsPermutation}
use Rattle.std.proofs.lemmas.List.Sorted.{ranks_by, answers_always}
use Rattle.span_types.specs.Orders.{block_order}
use Rattle.span_types.specs.First.{IsFirstOf}
use Rattle.span_types.proofs.FirstLaws.{block_order_total, firsts_from_map}
use Rattle.span_types.proofs.first.first_rows.Goals as goal

pub returns : goal.returns
returns c =
    let moved : IsPermutation (values c.in_ok-firsts.firsts) c.sort_by.new.self.items =
    subst (λ xs. IsPermutation xs c.sort_by.new.self.items) c.in_ok-kept.ensures.rows c.in_ok-sort_by.ensures.permutation in
    let up = c.in_ok-sort_by.ensures.sorted (λ a b. is_lt (block_order a b)) (ranks_by block_order_total (λ r. r)) (answers_always _ _ _ (λ f a r g h. search rules)) in
    subst (IsFirstOf c.args.rows) (sym c.of.ensures)
    (subst (λ rs. IsFirstOf rs c.sort_by.new.self.items) c.into_vec.ensures
    (firsts_from_map _ c.in_ok-firsts.firsts c.sort_by.new.self.items c.in_ok-firsts.ensures c.rows_of.ensures.ordered moved up))

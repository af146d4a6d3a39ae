-- First occurrences are sorted.
use Rattle.std.proofs.Common.{◌≡◌, List, Some, sym, ◌∙◌, ap, arith, slice_index_or}
use Rattle.std.specs.declared.cmp.Ordering.TheVariants.{Less, Equal}
use Rattle.std.proofs.lemmas.Cmp.{tied_itself}
use Rattle.span_types.specs.declared.spans.Row.{Row}
use Rattle.span_types.specs.Orders.{block_order}
use Rattle.span_types.specs.First.{IsFirstOf, first_at}
use Rattle.span_types.proofs.FirstLaws.{block_order_total}
use Rattle.rows_by_trace.proofs.TraceLaws.{all_pairs}
use Rattle.search_answer.specs.Walking.{IsSorted}

equal_less : Equal ≡ Less → ⊥
equal_less e = cc

pub firsts_are_sorted : (all rows : List Row) → IsFirstOf all rows → IsSorted rows
firsts_are_sorted all rows is = record {
  ordered = all_pairs rows is.ordered;
  apart = λ i j d l h same.
      let one = is.only i d (omega arith) in
      let other = is.only j d h in
      let rows_same : slice_index_or rows i d ≡ slice_index_or rows j d = inside _ _ (sym one ∙ ap (λ k. first_at k all) same ∙ other) in
      equal_less (sym (tied_itself block_order_total (slice_index_or rows j d)) ∙ ap (λ r. block_order r (slice_index_or rows j d)) (sym rows_same) ∙ all_pairs rows is.ordered i j d l h);
}
  where
    inside : (a b : Row) → Some a ≡ Some b → a ≡ b
    inside a b e = cc

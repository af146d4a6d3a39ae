use Rattle.std.proofs.Common.{◌∙◌, subst, rules}
use Rattle.std.specs.Cmp.{IsTotalOrder}
use Rattle.std.specs.List.Sorted.{IsPermutation}
use Rattle.std.specs.Ordering.{is_lt}
use Rattle.std.proofs.lemmas.Cmp.{then_total, on_total, back_total, nat_cmp_total, nat_list_cmp_total}
use Rattle.std.proofs.lemmas.List.Sorted.{ranks_by, answers_always}
use Rattle.spanset_eval.specs.declared.results.TraceResult.{TraceResult}
use Rattle.spanset_eval.specs.Ranking.{rank_cmp}
use Rattle.spanset_eval.proofs.ranking.rank.Goals as goal

rank_cmp_total : IsTotalOrder rank_cmp
rank_cmp_total = then_total (back_total (on_total (λ (r : TraceResult). r.start) nat_cmp_total)) (on_total (λ (r : TraceResult). r.trace.0) nat_list_cmp_total)

pub returns : goal.returns
returns c = record {
  all = c.sort_by.new.self.items;
  same = subst (λ xs. IsPermutation xs c.sort_by.new.self.items) c.into_vec-results.ensures c.in_ok-sort_by.ensures.permutation;
  sorted = c.in_ok-sort_by.ensures.sorted (λ a b. is_lt (rank_cmp a b)) (ranks_by rank_cmp_total (λ r. r)) (answers_always _ _ _ (λ f a r g h. search rules));
  first_are = c.of.ensures ∙ c.truncate.ensures.items;
}

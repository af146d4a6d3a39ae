use Rattle.std.proofs.Common.{rules}
use Rattle.std.specs.Ordering.{is_lt}
use Rattle.std.proofs.lemmas.List.Sorted.{answers_always, ranks_by}
use Rattle.search_answer.specs.InRange.{trace_rank_cmp}
use Rattle.search_answer.proofs.RankLaws.{trace_rank_total}
use Rattle.search_answer.proofs.ranking.rank_traces.Goals as goal

pub returns-clause-sorted : goal.returns-clause-sorted
returns-clause-sorted c = c.sort_unstable_by.ensures.sorted (λ s t. is_lt (trace_rank_cmp s t)) (ranks_by trace_rank_total (λ t. t)) (answers_always _ _ _ (λ f a r g h. search rules))

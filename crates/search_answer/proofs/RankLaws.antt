-- The orders of traces and of results, and the first of the first results.
use Rattle.std.proofs.Common.{List, ◌++◌}
use Rattle.std.specs.Cmp.{IsTotalOrder}
use Rattle.std.specs.Ordering.{is_lt}
use Rattle.std.proofs.lemmas.Cmp.{then_total, on_total, back_total, nat_cmp_total, nat_list_cmp_total}
use Rattle.std.proofs.lemmas.List.Sorted.{ranks_by}
use Rattle.spanset_eval.specs.declared.results.TraceResult.{TraceResult}
use Rattle.spanset_eval.specs.Ranking.{AreFirst, rank_cmp}
use Rattle.search_answer.specs.declared.traces.TraceInRange.{TraceInRange}
use Rattle.search_answer.specs.InRange.{trace_rank_cmp}
use Rattle.search_answer.specs.Parts.{FirstOfFirsts}
use Rattle.search_answer.proofs.Sorting.{FirstBy, first_of_firsts}

pub trace_rank_total : IsTotalOrder trace_rank_cmp
trace_rank_total = then_total (back_total (on_total (λ (t : TraceInRange). t.start) nat_cmp_total)) (on_total (λ (t : TraceInRange). t.trace.0) nat_list_cmp_total)

pub rank_total : IsTotalOrder rank_cmp
rank_total = then_total (back_total (on_total (λ (r : TraceResult). r.start) nat_cmp_total)) (on_total (λ (r : TraceResult). r.trace.0) nat_list_cmp_total)

pub first_joined : FirstOfFirsts
first_joined limit xs ys a b first left right joined =
    let before = λ (r s : TraceResult). is_lt (rank_cmp r s) in
    let found = first_of_firsts before (ranks_by rank_total (λ r. r)) limit xs ys a b first (seen xs a left) (seen ys b right) (seen (a ++ b) first joined) in
    record { all = found.all; same = found.same; sorted = found.sorted; first_are = found.first_are }
  where
    seen : (rs front : List TraceResult) → AreFirst rs limit front → FirstBy (λ r s. is_lt (rank_cmp r s)) rs limit front
    seen rs front are = record { all = are.all; same = are.same; sorted = are.sorted; first_are = are.first_are }

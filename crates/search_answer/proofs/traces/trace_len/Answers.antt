use Rattle.std.proofs.Common.{◌≡◌, ap, arith, subst, true, slice_index_or}
use Rattle.std.proofs.lemmas.Cmp.{tied_itself}
use Rattle.std.specs.Ordering.{is_eq}
use Rattle.search_answer.specs.Walking.{of_one_trace}
use Rattle.search_answer.proofs.Fronts.{trace_cmp_total}
use Rattle.search_answer.proofs.traces.trace_len.Goals as goal

pub loop-i-init : goal.loop-i-init
loop-i-init c = λ k d l.
    let zero : 0 ≡ k = omega arith in
    subst (λ m. of_one_trace (slice_index_or c.args.rows.now m d) (slice_index_or c.args.rows.now 0 d) ≡ true) zero
    (ap is_eq (tied_itself trace_cmp_total (slice_index_or c.args.rows.now 0 d).span.trace))

use Rattle.std.proofs.Common.{ap, sym, ◌∙◌}
use Rattle.span_types.specs.First.{lesser, row_at}
use Rattle.span_types.proofs.FirstLaws.{first_at-push}
use Rattle.span_types.proofs.first.firsts_by_key.Goals as goal

pub loop-row-preserved : goal.loop-row-preserved
loop-row-preserved c = λ k.
    c.in_ok-keep_first.ensures k ∙ ap (λ o. lesser o (row_at k c.in-Some.row)) (c.loop-row.invariant k)
    ∙ sym (first_at-push k c.loop-row.yielded c.in-Some.row)

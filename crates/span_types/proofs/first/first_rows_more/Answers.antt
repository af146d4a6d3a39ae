use Rattle.std.proofs.Common.{◌≡◌, ◌++◌, ◌∙◌, ap, subst}
use Rattle.span_types.specs.First.{IsFirstOf}
use Rattle.span_types.proofs.FirstLaws.{firsts_more}
use Rattle.span_types.proofs.first.first_rows_more.Goals as goal

pub returns : goal.returns
returns c =
    let joined : c.of.result ≡ c.args.firsts ++ c.args.more =
    c.of.ensures ∙ c.in_ok-append.ensures.items ∙ ap (λ xs. xs ++ c.into_vec-more.result.items) c.into_vec-rows.ensures
    ∙ ap (λ ys. c.args.firsts ++ ys) c.into_vec-more.ensures in
    λ base is. firsts_more base c.args.firsts c.args.more c.in_ok-all.all is (subst (λ rs. IsFirstOf rs c.in_ok-all.all) joined c.in_ok-all.ensures)

use Rattle.std.proofs.Common.{◌∙◌, subst}
use Rattle.std.specs.List.{AllZip}
use Rattle.traceql_metrics.specs.Series.{IsCount, HasCounts}
use Rattle.traceql_metrics.proofs.Whole.{tells_from}
use Rattle.traceql_metrics.proofs.making.series_of.Goals as goal

pub returns-clause-values : goal.returns-clause-values
returns-clause-values c =
    subst (λ ms. HasCounts ms c.args.steps.start c.args.steps.end c.args.steps.step c.args.rate c.in_ok-values.values) (c.as_slice.ensures.value ∙ c.in_ok-moments.ensures)
    (tells_from c.as_slice.result.now c.args.steps.start c.args.steps.end c.args.steps.step c.args.rate c.in_ok-counts.counts.items c.in_ok-values.values
    c.in_ok-counts.ensures.one_each c.in_ok-counts.ensures.each
    (subst (λ counts. AllZip (IsCount c.args.rate c.args.steps.step) counts c.in_ok-values.values) c.as_slice-2.ensures.value c.in_ok-values.ensures))

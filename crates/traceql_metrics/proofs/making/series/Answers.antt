use Rattle.std.proofs.Common.{◌∙◌, ap, arith, filter, subst, sym}
use Rattle.std.specs.List.{AllZip, dedup, flat_map}
use Rattle.std.proofs.lemmas.List.{take_all}
use Rattle.traceql_metrics.specs.Grouping.{same_values}
use Rattle.traceql_metrics.specs.Series.{has_values, starts_of, AreSeries, HasCounts}
use Rattle.traceql_metrics.proofs.Whole.{whole_series, IsSeriesOf}
use Rattle.traceql_metrics.proofs.Zips.{zip_more}
use Rattle.traceql_metrics.proofs.making.series.Goals as goal

pub loop-head-preserved : goal.loop-head-preserved
loop-head-preserved c =
    let found = c.in_ok-found.found.items in
    let series = c.in_ok-series_of.field-0 in
    let group = c.group_of-group.ensures ∙ ap (filter (has_values c.head-item.result.by)) c.as_slice-in-loop-head.ensures.value in
    zip_more (IsSeriesOf found c.args.start c.args.end c.args.step c.args.rate) c.as_slice-head-items.result.now c.loop-head.all.items c.push.new.self.items c.loop-head.head-index c.head-item.result
    series c.loop-head-test.true c.loop-head.invariant
    (subst (λ head. IsSeriesOf found c.args.start c.args.end c.args.step c.args.rate head series) c.head-item.is (record {
      by = c.in_ok-series_of.ensures.by;
      tells = subst (λ ms. HasCounts ms c.args.start c.args.end c.args.step c.args.rate series.values) (ap (flat_map starts_of) group) c.in_ok-series_of.ensures.values;
    })) c.in_ok-push.ensures.items

pub returns : goal.returns
returns c =
    let found = c.in_ok-found.found.items in
    let heads = c.as_slice-head-items.result.now in
    let all = take_all c.loop-head.head-index heads (omega arith) ∙ c.as_slice-head-items.ensures.value ∙ c.in_ok-heads.ensures ∙ ap (dedup same_values) c.as_slice.ensures.value in
    subst (AreSeries c.args.results.now c.args.start c.args.end c.args.step c.args.rate) (sym c.of.ensures)
    (whole_series c.args.results.now c.args.start c.args.end c.args.step c.args.rate found c.loop-head.all.items c.in_ok-found.ensures.same c.in_ok-found.ensures.sorted
    (subst (λ hs. AllZip (IsSeriesOf found c.args.start c.args.end c.args.step c.args.rate) hs c.loop-head.all.items) all c.loop-head.invariant))

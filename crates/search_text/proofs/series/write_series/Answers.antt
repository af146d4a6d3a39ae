use Rattle.std.proofs.Common.{◌≡◌, ◌∙◌, ap}
use Rattle.serde_json.specs.View.{view}
use Rattle.search_text.specs.Series.{all_series_json}
use Rattle.search_text.proofs.PlainSeries.{series_written}
use Rattle.search_text.proofs.series.write_series.Goals as goal

pub returns : goal.returns
returns c =
    let is : view c.in_ok-value.value ≡ all_series_json c.args.series.now = c.in_ok-value.ensures ∙ ap all_series_json c.as_slice.ensures in
    c.of.ensures ∙ series_written c.args.series.now _ _ is c.in_ok-to_string.ensures.text

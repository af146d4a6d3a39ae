use Rattle.std.proofs.Common.{◌≡◌, ◌∙◌, ap₂}
use Rattle.serde_json.specs.View.{view}
use Rattle.search_text.specs.Results.{results_json}
use Rattle.search_text.proofs.Floats.{written}
use Rattle.search_text.proofs.results.write_results.Goals as goal

pub returns : goal.returns
returns c =
    let is : view c.in_ok-value.value ≡ results_json c.args.fields.now c.args.results.now = c.in_ok-value.ensures ∙ ap₂ results_json c.as_slice.ensures c.as_slice-2.ensures in
    c.of.ensures ∙ written c.args.fields.now c.args.results.now _ _ is c.in_ok-to_string.ensures.text

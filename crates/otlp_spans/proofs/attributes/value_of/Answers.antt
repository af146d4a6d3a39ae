use Rattle.std.proofs.Common.{sym, ap, string_bytes, ◌∙◌}
use Rattle.serde_json.specs.View.{view}
use Rattle.otlp_spans.specs.Attributes.{value_of}
use Rattle.otlp_spans.specs.Keys.{value_named}
use Rattle.otlp_spans.proofs.AloneLemmas.{value_alone}
use Rattle.otlp_spans.proofs.attributes.value_of.Goals as goal

pub returns-in-Ok : goal.returns-in-Ok
returns-in-Ok c =
    c.value_named.ensures
    ∙ ap (λ n. value_named n (view c.in-Ok.only)) c.as_str.ensures.value
    ∙ sym (ap value_of c.in-Ok.ensures.one ∙ value_alone (string_bytes c.in-Ok.name) (view c.in-Ok.only))

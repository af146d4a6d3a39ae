use Rattle.std.proofs.Common.{Option, ap, ◌∙◌}
use Rattle.serde_json.specs.Data.{Data}
use Rattle.otlp_spans.specs.Json.{◌>>=◌, not_null}
use Rattle.otlp_spans.proofs.json.taken.Goals as goal

pub returns-clause-value : goal.returns-clause-value
returns-clause-value c = c.not_null.ensures ∙ ap (λ (o : Option Data). o >>= not_null) c.removed.ensures.value

pub returns-clause-others : goal.returns-clause-others
returns-clause-others c = λ other differ. ap (λ (o : Option Data). o >>= not_null) (c.removed.ensures.others other differ)

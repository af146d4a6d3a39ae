use Rattle.std.proofs.Common.{List, ap, ◌∙◌}
use Rattle.serde_json.specs.Data.{object}
use Rattle.serde_json.specs.View.{members_view, view}
use Rattle.serde_json.proofs.Views.{Entry, view-Object}
use Rattle.serde_json.specs.declared.value.Value.{Value}
use Rattle.otlp_spans.proofs.attributes.alone.Goals as goal

pub returns-in-Ok-clause-one : goal.returns-in-Ok-clause-one
returns-in-Ok-clause-one c =
    ap view c.in-Object.is
    ∙ view-Object c.in-Object.members
    ∙ ap (λ (es : List Entry). object (members_view es)) c.in-Ok.ensures.one

use Rattle.std.proofs.Common.{List, ℕ, ap, bytes_eq, ◌∙◌, option_map}
use Rattle.serde_json.specs.Find.{get_member}
use Rattle.serde_json.specs.View.{members_view, view}
use Rattle.serde_json.proofs.Views.{view-lookup}
use Rattle.otlp_spans.specs.Members.{member_name}
use Rattle.otlp_spans.proofs.TakenLemmas.{others_stay}
use Rattle.otlp_spans.proofs.json.removed.Goals as goal

pub returns-clause-value : goal.returns-clause-value
returns-clause-value c =
    ap (option_map view) c.remove.ensures.value
    ∙ view-lookup c.name.result.now c.args.members.now.entries
    ∙ ap (λ (n : List ℕ). get_member n (members_view c.args.members.now.entries)) c.name.ensures

-- What is removed has the member's name.
pub returns-clause-others : goal.returns-clause-others
returns-clause-others c = λ other differ.
    ap (λ es. get_member (member_name other) (members_view es)) c.remove.ensures.entries
    ∙ others_stay (member_name other) c.name.result.now c.args.members.now.entries (ap (λ (n : List ℕ). bytes_eq (member_name other) n) c.name.ensures ∙ differ)

use Rattle.std.proofs.Common.{◌≡◌, ap, sym, ◌∙◌}
use Rattle.serde_json.specs.Data.{object}
use Rattle.serde_json.specs.View.{members_view, view}
use Rattle.otlp_spans.specs.Forms.{found}
use Rattle.otlp_spans.proofs.TakenLemmas.{found_outside, found_within}
use Rattle.otlp_spans.proofs.json.members_of.Goals as goal

pub returns-in-Some : goal.returns-in-Some
returns-in-Some c = λ member. found_within member (view c.args.value) (members_view c.in-Some.members.entries) c.in-Some.ensures

pub returns-in-None : goal.returns-in-None
returns-in-None c = λ member.
    ap (λ es. found member (object (members_view es))) c.new.ensures.empty
    ∙ found_outside member (view c.args.value) c.in-None.ensures

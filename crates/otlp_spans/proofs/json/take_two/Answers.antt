use Rattle.std.proofs.Common.{◌∙◌}
use Rattle.otlp_spans.proofs.json.take_two.Goals as goal

pub returns-clause-first : goal.returns-clause-first
returns-clause-first c = c.taken-one.ensures.value ∙ c.members_of-members.ensures c.args.first

-- The first is gone by then.
pub returns-clause-second : goal.returns-clause-second
returns-clause-second c = c.taken-other.ensures.value ∙ c.taken-one.ensures.others c.args.second c.requires ∙ c.members_of-members.ensures c.args.second

use Rattle.std.proofs.Common.{◌∙◌}
use Rattle.otlp_spans.proofs.json.take_one.Goals as goal

pub returns : goal.returns
returns c = c.taken.ensures.value ∙ c.members_of-members.ensures c.args.member

use Rattle.std.proofs.Common.{◌∙◌}
use Rattle.serde_json.specs.View.{view}
use Rattle.otlp_spans.proofs.LevelLemmas.{scope_gathered}
use Rattle.otlp_spans.proofs.gathering.ScopeLevelLevel.read.Goals as goal

pub returns-clause-spans : goal.returns-clause-spans
returns-clause-spans c =
    scope_gathered c.read_member.result c.args.self.now.resource.now _ (view c.args.value) _ _ _ _ (c.in_ok-scope.ensures ∙ c.in_ok-read.ensures.origin) c.take_two-parts.ensures.first
    c.take_two-parts.ensures.second c.read_member.ensures.spans

use Rattle.std.proofs.Common.{refl, ◌∙◌}
use Rattle.otlp_spans.specs.declared.paths.Member.TheVariants as m
use Rattle.otlp_spans.proofs.parts.take_parts.Goals as goal

pub returns-clause-name : goal.returns-clause-name
returns-clause-name c = c.taken-one.ensures.value ∙ c.members_of-members.ensures m.Name

-- What was taken before has other names.
pub returns-clause-attributes : goal.returns-clause-attributes
returns-clause-attributes c = c.taken-two.ensures.value ∙ c.taken-one.ensures.others m.Attributes refl ∙ c.members_of-members.ensures m.Attributes

pub returns-clause-events : goal.returns-clause-events
returns-clause-events c =
    c.taken-three.ensures.value
    ∙ c.taken-two.ensures.others m.Events refl
    ∙ c.taken-one.ensures.others m.Events refl
    ∙ c.members_of-members.ensures m.Events

pub returns-clause-links : goal.returns-clause-links
returns-clause-links c =
    c.taken-four.ensures.value
    ∙ c.taken-three.ensures.others m.Links refl
    ∙ c.taken-two.ensures.others m.Links refl
    ∙ c.taken-one.ensures.others m.Links refl
    ∙ c.members_of-members.ensures m.Links

use Rattle.std.proofs.Common.{◌⊎◌, ⊎_elim, inl, inr, subst}
use Rattle.byte_fields.specs.Reading.{Stand}
use Rattle.byte_fields.proofs.TextLaws.{TextAnswer, text_answer, ok_is}
use Rattle.byte_fields.proofs.reader.Reader.text.Goals as goal
use Rattle.byte_fields.proofs.reader.Reader.text.Goals.{After-text}

answer : (c : After-text) → TextAnswer (λ t. t) c.text.result c.args.self.now c.text.new.self
answer c = subst (λ (s : Stand). TextAnswer (λ t. t) c.text.result s c.text.new.self) c.self.view_is (text_answer (λ t. t) c.text.result _ c.text.new.self c.text.ensures.within c.text.ensures.reads)

pub returns-clause-value : goal.returns-clause-value
returns-clause-value c = (answer c).value

pub returns-clause-short : goal.returns-clause-short
returns-clause-short c = (answer c).short

pub returns-clause-not_shortest : goal.returns-clause-not_shortest
returns-clause-not_shortest c = (answer c).not_shortest

pub returns-clause-not_text : goal.returns-clause-not_text
returns-clause-not_text c = (answer c).not_text

pub returns-clause-errors : goal.returns-clause-errors
returns-clause-errors c = (answer c).errors

pub returns-clause-only : goal.returns-clause-only
returns-clause-only c = λ text rest is below e. ⊎_elim (λ h. inl (ok_is c.text.result text h)) (λ h. inr h) ((answer c).only text rest is below e)

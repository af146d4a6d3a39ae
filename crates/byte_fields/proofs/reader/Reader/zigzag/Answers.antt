use Rattle.std.proofs.Common.{subst}
use Rattle.byte_fields.specs.Reading.{Stand}
use Rattle.byte_fields.proofs.FieldLaws.{ZigzagAnswer, zigzag_answer}
use Rattle.byte_fields.proofs.reader.Reader.zigzag.Goals as goal

pub returns-clause-value : goal.returns-clause-value
returns-clause-value c = (subst (λ (s : Stand). ZigzagAnswer c.zigzag.result s c.zigzag.new.self) c.self.view_is (zigzag_answer c.zigzag.result _ c.zigzag.new.self c.zigzag.ensures.within c.zigzag.ensures.reads)).value

pub returns-clause-only : goal.returns-clause-only
returns-clause-only c = (subst (λ (s : Stand). ZigzagAnswer c.zigzag.result s c.zigzag.new.self) c.self.view_is (zigzag_answer c.zigzag.result _ c.zigzag.new.self c.zigzag.ensures.within c.zigzag.ensures.reads)).only

pub returns-clause-short : goal.returns-clause-short
returns-clause-short c = (subst (λ (s : Stand). ZigzagAnswer c.zigzag.result s c.zigzag.new.self) c.self.view_is (zigzag_answer c.zigzag.result _ c.zigzag.new.self c.zigzag.ensures.within c.zigzag.ensures.reads)).short

pub returns-clause-not_shortest : goal.returns-clause-not_shortest
returns-clause-not_shortest c = (subst (λ (s : Stand). ZigzagAnswer c.zigzag.result s c.zigzag.new.self) c.self.view_is (zigzag_answer c.zigzag.result _ c.zigzag.new.self c.zigzag.ensures.within c.zigzag.ensures.reads)).not_shortest

pub returns-clause-errors : goal.returns-clause-errors
returns-clause-errors c = (subst (λ (s : Stand). ZigzagAnswer c.zigzag.result s c.zigzag.new.self) c.self.view_is (zigzag_answer c.zigzag.result _ c.zigzag.new.self c.zigzag.ensures.within c.zigzag.ensures.reads)).errors

use Rattle.std.proofs.Common.{subst}
use Rattle.byte_fields.specs.Reading.{Stand}
use Rattle.byte_fields.proofs.FieldLaws.{Fixed32Answer, fixed32_answer}
use Rattle.byte_fields.proofs.reader.Reader.fixed32.Goals as goal

pub returns-clause-value : goal.returns-clause-value
returns-clause-value c = (subst (λ (s : Stand). Fixed32Answer c.fixed32.result s c.fixed32.new.self) c.self.view_is (fixed32_answer c.fixed32.result _ c.fixed32.new.self c.fixed32.ensures.within c.fixed32.ensures.reads)).value

pub returns-clause-only : goal.returns-clause-only
returns-clause-only c = (subst (λ (s : Stand). Fixed32Answer c.fixed32.result s c.fixed32.new.self) c.self.view_is (fixed32_answer c.fixed32.result _ c.fixed32.new.self c.fixed32.ensures.within c.fixed32.ensures.reads)).only

pub returns-clause-short : goal.returns-clause-short
returns-clause-short c = (subst (λ (s : Stand). Fixed32Answer c.fixed32.result s c.fixed32.new.self) c.self.view_is (fixed32_answer c.fixed32.result _ c.fixed32.new.self c.fixed32.ensures.within c.fixed32.ensures.reads)).short

pub returns-clause-errors : goal.returns-clause-errors
returns-clause-errors c = (subst (λ (s : Stand). Fixed32Answer c.fixed32.result s c.fixed32.new.self) c.self.view_is (fixed32_answer c.fixed32.result _ c.fixed32.new.self c.fixed32.ensures.within c.fixed32.ensures.reads)).errors

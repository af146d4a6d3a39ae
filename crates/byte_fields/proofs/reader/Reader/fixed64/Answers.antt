use Rattle.std.proofs.Common.{subst}
use Rattle.byte_fields.specs.Reading.{Stand}
use Rattle.byte_fields.proofs.FieldLaws.{Fixed64Answer, fixed64_answer}
use Rattle.byte_fields.proofs.reader.Reader.fixed64.Goals as goal

pub returns-clause-value : goal.returns-clause-value
returns-clause-value c = (subst (λ (s : Stand). Fixed64Answer c.fixed64.result s c.fixed64.new.self) c.self.view_is (fixed64_answer c.fixed64.result _ c.fixed64.new.self c.fixed64.ensures.within c.fixed64.ensures.reads)).value

pub returns-clause-only : goal.returns-clause-only
returns-clause-only c = (subst (λ (s : Stand). Fixed64Answer c.fixed64.result s c.fixed64.new.self) c.self.view_is (fixed64_answer c.fixed64.result _ c.fixed64.new.self c.fixed64.ensures.within c.fixed64.ensures.reads)).only

pub returns-clause-short : goal.returns-clause-short
returns-clause-short c = (subst (λ (s : Stand). Fixed64Answer c.fixed64.result s c.fixed64.new.self) c.self.view_is (fixed64_answer c.fixed64.result _ c.fixed64.new.self c.fixed64.ensures.within c.fixed64.ensures.reads)).short

pub returns-clause-errors : goal.returns-clause-errors
returns-clause-errors c = (subst (λ (s : Stand). Fixed64Answer c.fixed64.result s c.fixed64.new.self) c.self.view_is (fixed64_answer c.fixed64.result _ c.fixed64.new.self c.fixed64.ensures.within c.fixed64.ensures.reads)).errors

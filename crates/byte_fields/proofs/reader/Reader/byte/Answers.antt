use Rattle.std.proofs.Common.{subst}
use Rattle.byte_fields.specs.Reading.{Stand}
use Rattle.byte_fields.proofs.FieldLaws.{ByteAnswer, byte_answer}
use Rattle.byte_fields.proofs.reader.Reader.byte.Goals as goal

pub returns-clause-value : goal.returns-clause-value
returns-clause-value c = (subst (λ (s : Stand). ByteAnswer c.byte.result s c.byte.new.self) c.self.view_is (byte_answer c.byte.result _ c.byte.new.self c.byte.ensures.within c.byte.ensures.reads)).value

pub returns-clause-only : goal.returns-clause-only
returns-clause-only c = (subst (λ (s : Stand). ByteAnswer c.byte.result s c.byte.new.self) c.self.view_is (byte_answer c.byte.result _ c.byte.new.self c.byte.ensures.within c.byte.ensures.reads)).only

pub returns-clause-short : goal.returns-clause-short
returns-clause-short c = (subst (λ (s : Stand). ByteAnswer c.byte.result s c.byte.new.self) c.self.view_is (byte_answer c.byte.result _ c.byte.new.self c.byte.ensures.within c.byte.ensures.reads)).short

pub returns-clause-errors : goal.returns-clause-errors
returns-clause-errors c = (subst (λ (s : Stand). ByteAnswer c.byte.result s c.byte.new.self) c.self.view_is (byte_answer c.byte.result _ c.byte.new.self c.byte.ensures.within c.byte.ensures.reads)).errors

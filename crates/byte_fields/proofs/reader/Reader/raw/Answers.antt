use Rattle.std.proofs.Common.{subst}
use Rattle.byte_fields.specs.Reading.{Stand}
use Rattle.byte_fields.proofs.FieldLaws.{RawAnswer, raw_answer}
use Rattle.byte_fields.proofs.reader.Reader.raw.Goals as goal

pub returns-clause-value : goal.returns-clause-value
returns-clause-value c = (subst (λ (s : Stand). RawAnswer (λ x. x.now) c.args.count c.raw.result s c.raw.new.self) c.self.view_is (raw_answer (λ x. x.now) c.args.count c.raw.result _ c.raw.new.self c.raw.ensures.reads)).value

pub returns-clause-only : goal.returns-clause-only
returns-clause-only c = (subst (λ (s : Stand). RawAnswer (λ x. x.now) c.args.count c.raw.result s c.raw.new.self) c.self.view_is (raw_answer (λ x. x.now) c.args.count c.raw.result _ c.raw.new.self c.raw.ensures.reads)).only

pub returns-clause-short : goal.returns-clause-short
returns-clause-short c = (subst (λ (s : Stand). RawAnswer (λ x. x.now) c.args.count c.raw.result s c.raw.new.self) c.self.view_is (raw_answer (λ x. x.now) c.args.count c.raw.result _ c.raw.new.self c.raw.ensures.reads)).short

pub returns-clause-errors : goal.returns-clause-errors
returns-clause-errors c = (subst (λ (s : Stand). RawAnswer (λ x. x.now) c.args.count c.raw.result s c.raw.new.self) c.self.view_is (raw_answer (λ x. x.now) c.args.count c.raw.result _ c.raw.new.self c.raw.ensures.reads)).errors

use Rattle.std.proofs.Common.{subst}
use Rattle.byte_fields.specs.Reading.{Stand}
use Rattle.byte_fields.proofs.FieldLaws.{VarAnswer, var_answer}
use Rattle.byte_fields.proofs.reader.Reader.var.Goals as goal

pub returns-clause-value : goal.returns-clause-value
returns-clause-value c = (subst (λ (s : Stand). VarAnswer c.var.result s c.var.new.self) c.self.view_is (var_answer c.var.result _ c.var.new.self c.var.ensures.within c.var.ensures.reads)).value

pub returns-clause-only : goal.returns-clause-only
returns-clause-only c = (subst (λ (s : Stand). VarAnswer c.var.result s c.var.new.self) c.self.view_is (var_answer c.var.result _ c.var.new.self c.var.ensures.within c.var.ensures.reads)).only

pub returns-clause-short : goal.returns-clause-short
returns-clause-short c = (subst (λ (s : Stand). VarAnswer c.var.result s c.var.new.self) c.self.view_is (var_answer c.var.result _ c.var.new.self c.var.ensures.within c.var.ensures.reads)).short

pub returns-clause-not_shortest : goal.returns-clause-not_shortest
returns-clause-not_shortest c = (subst (λ (s : Stand). VarAnswer c.var.result s c.var.new.self) c.self.view_is (var_answer c.var.result _ c.var.new.self c.var.ensures.within c.var.ensures.reads)).not_shortest

pub returns-clause-errors : goal.returns-clause-errors
returns-clause-errors c = (subst (λ (s : Stand). VarAnswer c.var.result s c.var.new.self) c.self.view_is (var_answer c.var.result _ c.var.new.self c.var.ensures.within c.var.ensures.reads)).errors

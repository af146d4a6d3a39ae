use Rattle.stripe_glances.proofs.FieldLaws.{value_by_byte, value_by_number}
use Rattle.stripe_glances.proofs.kinds.leap_value.Goals as goal

pub returns-then-tag-eq2 : goal.returns-then-tag-eq2
returns-then-tag-eq2 c = λ _ texts. value_by_byte texts c.in-Ok.tag _ c.args.reader.now c.byte.new.self c.byte-then-tag-eq2.new.self c.in-Ok.ensures.reads c.if-tag-eq2.true c.in-Ok-byte.ensures.reads

pub returns : goal.returns
returns c = λ _ texts. value_by_number texts c.in-Ok.tag _ c.args.reader.now c.byte.new.self c.var.new.self c.in-Ok.ensures.reads c.if-tag-eq2.false c.in-Ok-var.ensures.reads

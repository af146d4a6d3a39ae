use Rattle.stripe_glances.proofs.FieldLaws.{attr_leaps}
use Rattle.stripe_glances.proofs.kinds.AttributesLeap.leap.Goals as goal

pub returns : goal.returns
returns c = λ passed texts before. attr_leaps texts before _ c.args.reader.now c.var.new.self c.leap_value.new.reader c.in-Ok.ensures.reads (c.leap_value.ensures passed texts)

use Rattle.stripe_glances.proofs.FieldLaws.{scope_leaps}
use Rattle.stripe_glances.proofs.kinds.ScopesLeap.leap.Goals as goal

pub returns : goal.returns
returns c = λ passed texts before.
    scope_leaps texts before _ _ c.args.reader.now c.var.new.self c.var-2.new.self c.leap_counted.new.reader c.in-Ok.ensures.reads c.in-Ok-var.ensures.reads (c.leap_counted.ensures passed texts)

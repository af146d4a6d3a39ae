use Rattle.stripe_glances.proofs.FieldLaws.{number_leaps}
use Rattle.stripe_glances.proofs.kinds.NumbersLeap.leap.Goals as goal

pub returns : goal.returns
returns c = λ _ texts before. number_leaps _ c.args.reader.now c.var.new.self c.in-Ok.ensures.reads

use Rattle.stripe_glances.proofs.FieldLaws.{position_leaps}
use Rattle.stripe_glances.proofs.kinds.PositionsLeap.leap.Goals as goal

pub returns : goal.returns
returns c = λ _ texts before. position_leaps _ c.args.reader.now c.var.new.self c.in-Ok.ensures.reads

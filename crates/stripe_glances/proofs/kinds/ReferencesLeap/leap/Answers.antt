use Rattle.stripe_glances.proofs.FieldLaws.{reference_leaps}
use Rattle.stripe_glances.proofs.kinds.ReferencesLeap.leap.Goals as goal

pub returns : goal.returns
returns c = λ _ texts before. reference_leaps texts _ c.args.reader.now c.var.new.self c.in-Ok.ensures.reads

use Rattle.stripe_glances.proofs.FieldLaws.{resource_leaps}
use Rattle.stripe_glances.proofs.kinds.ResourcesLeap.leap.Goals as goal

pub returns : goal.returns
returns c = λ passed texts before. resource_leaps texts before c.args.reader.now c.leap_counted.new.reader (c.leap_counted.ensures passed texts)

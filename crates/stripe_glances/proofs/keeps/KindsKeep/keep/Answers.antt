use Rattle.stripe_glances.proofs.FieldLaws.{kind_keeps}
use Rattle.stripe_glances.proofs.keeps.KindsKeep.keep.Goals as goal

pub returns : goal.returns
returns c = kind_keeps c.in-Ok.number c.numbered.result c.args.reader.now c.byte.new.self c.in-Ok.ensures.reads (cc)

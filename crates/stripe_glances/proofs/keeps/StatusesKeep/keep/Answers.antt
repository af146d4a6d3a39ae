use Rattle.stripe_glances.proofs.FieldLaws.{status_keeps}
use Rattle.stripe_glances.proofs.keeps.StatusesKeep.keep.Goals as goal

pub returns : goal.returns
returns c = status_keeps c.in-Ok.number c.numbered.result c.args.reader.now c.byte.new.self c.in-Ok.ensures.reads (cc)

use Rattle.stripe_glances.proofs.FieldLaws.{no_parent_leaps, parent_leaps}
use Rattle.stripe_glances.proofs.kinds.ParentsLeap.leap.Goals as goal

pub returns-then-there-eq0 : goal.returns-then-there-eq0
returns-then-there-eq0 c = λ _ texts before. no_parent_leaps c.in-Ok.there c.args.reader.now c.byte.new.self c.in-Ok.ensures.reads c.if-there-eq0.true

pub returns : goal.returns
returns c = λ _ texts before. parent_leaps c.in-Ok.there _ c.args.reader.now c.byte.new.self c.raw.new.self c.in-Ok.ensures.reads c.if-there-eq0.false c.in-Ok-raw.ensures.reads

use Rattle.stripe_glances.proofs.FieldLaws.{number_keeps}
use Rattle.stripe_glances.proofs.LandLaws.{counted_leaps}
use Rattle.stripe_glances.proofs.leaps.leap_counted.Goals as goal

pub returns : goal.returns
returns g c = λ passed texts.
    counted_leaps (g.L.Leap.reading c.args.kind.now texts) c.in-Ok.count (number_keeps c.in-Ok.count c.args.reader.now c.var.new.self c.in-Ok.ensures.reads) (c.leap_items.ensures passed texts)

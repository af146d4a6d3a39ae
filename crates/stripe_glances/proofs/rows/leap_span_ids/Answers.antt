use Rattle.stripe_glances.proofs.FieldLaws.{ids_leap}
use Rattle.stripe_glances.proofs.rows.leap_span_ids.Goals as goal

pub returns : goal.returns
returns c = λ _. ids_leap c.args.count _ c.args.reader.now c.raw.new.self c.in-Ok.ensures.reads

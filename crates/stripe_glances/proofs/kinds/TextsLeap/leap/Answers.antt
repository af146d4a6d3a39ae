use Rattle.stripe_glances.proofs.FieldLaws.{new_text_leaps}
use Rattle.stripe_glances.proofs.kinds.TextsLeap.leap.Goals as goal

pub returns : goal.returns
returns c = λ _ texts before. new_text_leaps before c.in-Ok.length _ c.args.reader.now c.var.new.self c.raw.new.self c.in-Ok.ensures.reads c.in-Ok-raw.ensures.reads

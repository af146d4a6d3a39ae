use Rattle.byte_fields.specs.Reading.{fixed64_at}
use Rattle.stripe_glances.proofs.FieldLaws.{part_keeps}
use Rattle.stripe_glances.proofs.keeps.MomentsKeep.keep.Goals as goal

pub returns : goal.returns
returns c = part_keeps fixed64_at c.in-Ok.moment c.args.reader.now c.fixed64.new.self c.in-Ok.ensures.reads

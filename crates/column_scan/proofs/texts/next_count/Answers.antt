use Rattle.byte_fields.specs.Reading.{var_at}
use Rattle.column_scan.proofs.TextSteps.{next_field}
use Rattle.column_scan.proofs.texts.next_count.Goals as goal

pub returns-in-Ok : goal.returns-in-Ok
returns-in-Ok c = next_field var_at c.args.reader.now c.in-Ok.count c.var.new.self c.in-Ok.ensures.reads

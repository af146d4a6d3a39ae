use Rattle.column_scan.proofs.TextSteps.{next_text}
use Rattle.column_scan.proofs.texts.next_text.Goals as goal

pub returns-in-Ok-raw : goal.returns-in-Ok-raw
returns-in-Ok-raw c = next_text c.args.reader.now c.in-Ok.size c.var.new.self c.in-Ok-raw.text.now c.raw.new.self c.in-Ok.ensures.reads c.in-Ok-raw.ensures.reads

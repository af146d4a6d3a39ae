use Rattle.compactor.proofs.ReadLaws.{some_rows}
use Rattle.compactor.proofs.reading.read_block.Goals as goal

pub returns-clause-some : goal.returns-clause-some
returns-clause-some c = some_rows c.checked.result c.args.bytes c.checked.ensures.holds (c.a_block_has_rows.ensures c.args.bytes)

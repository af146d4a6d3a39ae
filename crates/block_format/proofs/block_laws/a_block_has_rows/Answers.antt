use Rattle.block_format.proofs.BlockLaws.{no_rows}
use Rattle.block_format.proofs.block_laws.a_block_has_rows.Goals as goal

pub returns : goal.returns
returns c = no_rows

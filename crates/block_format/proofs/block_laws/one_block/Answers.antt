use Rattle.block_format.proofs.BlockLaws.{same_block}
use Rattle.block_format.proofs.block_laws.one_block.Goals as goal

pub returns : goal.returns
returns c = λ bytes rows others one two. (same_block bytes one.header two.header rows others one.parts two.parts).rows_are

use Rattle.block_read.proofs.BlockBoth.{block_again}
use Rattle.block_read.proofs.laws.held_block_is_read.Goals as goal

pub returns : goal.returns
returns c = block_again

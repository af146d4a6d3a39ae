use Rattle.block_read.proofs.BlockBoth.{block_means}
use Rattle.block_read.proofs.laws.read_block_is_held.Goals as goal

pub returns : goal.returns
returns c = block_means

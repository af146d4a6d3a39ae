use Rattle.block_format.proofs.BlockLaws.{same_info}
use Rattle.block_format.proofs.block_laws.one_info.Goals as goal

pub returns : goal.returns
returns c = same_info

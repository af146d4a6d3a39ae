use Rattle.block_format.proofs.HeaderLaws.{again_header}
use Rattle.block_format.proofs.header_laws.held_header_is_read.Goals as goal

pub returns : goal.returns
returns c = again_header

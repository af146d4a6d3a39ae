use Rattle.block_format.proofs.HeaderLaws.{header_size}
use Rattle.block_format.proofs.header_laws.header_is_pages.Goals as goal

pub returns : goal.returns
returns c = header_size

use Rattle.block_format.proofs.HeaderLaws.{same_header}
use Rattle.block_format.proofs.header_laws.one_header.Goals as goal

pub returns : goal.returns
returns c = same_header

use Rattle.block_format.proofs.HeaderLaws.{meant_header}
use Rattle.block_format.proofs.header_laws.read_header_is_held.Goals as goal

pub returns : goal.returns
returns c = meant_header

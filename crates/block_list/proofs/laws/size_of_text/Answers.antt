use Rattle.block_list.proofs.BodyLemmas.{length-text}
use Rattle.block_list.proofs.laws.size_of_text.Goals as goal

pub returns : goal.returns
returns c = length-text

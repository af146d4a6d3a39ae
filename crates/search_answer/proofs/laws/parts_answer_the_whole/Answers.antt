use Rattle.search_answer.proofs.PartLaws.{joined, parted}
use Rattle.search_answer.proofs.laws.parts_answer_the_whole.Goals as goal

pub returns : goal.returns
returns c = record { joined = joined; parted = parted }

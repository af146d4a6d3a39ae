use Rattle.headline.proofs.Histories.{front_told}
use Rattle.headline.proofs.laws.each_answer_is_of_a_front.Goals as goal

pub returns : goal.returns
returns c = front_told

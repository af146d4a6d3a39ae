use Rattle.search_answer.proofs.PickedLaws.{picked_answer}
use Rattle.search_answer.proofs.laws.picked_answer_the_whole.Goals as goal

pub returns : goal.returns
returns c = picked_answer

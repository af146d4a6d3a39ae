use Rattle.search_answer.proofs.BestLaws.{stays}
use Rattle.search_answer.proofs.laws.first_stays.Goals as goal

pub returns : goal.returns
returns c = λ limit results others best are full after_best. stays limit results others best are full after_best

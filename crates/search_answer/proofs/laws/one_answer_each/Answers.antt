use Rattle.search_answer.proofs.Each.{each_is_answered}
use Rattle.search_answer.proofs.OneList.{one_outcome}
use Rattle.search_answer.proofs.laws.one_answer_each.Goals as goal

pub returns : goal.returns
returns c = record { some = each_is_answered; one = one_outcome }

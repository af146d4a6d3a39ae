use Rattle.query_fanout.proofs.WholeLaws.{taken_answer}
use Rattle.query_fanout.proofs.laws.taken_answer_the_whole.Goals as goal

pub returns : goal.returns
returns c = taken_answer c.answered_is_picked.ensures

use Rattle.store_state.proofs.LearnLaws.{step_learns}
use Rattle.store_state.proofs.laws.a_step_tells_what_is_learnt.Goals as goal

pub returns : goal.returns
returns c = step_learns

use Rattle.store_state.proofs.Few.{choice_few}
use Rattle.store_state.proofs.laws.a_choice_is_few.Goals as goal

pub returns : goal.returns
returns c = choice_few

use Rattle.store_model.proofs.KeepsFirsts.{step_keeps}
use Rattle.store_model.proofs.laws.step_keeps_firsts.Goals as goal

pub returns : goal.returns
returns c = step_keeps

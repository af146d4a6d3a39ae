use Rattle.store_model.proofs.KeepsFloor.{step_keeps}
use Rattle.store_model.proofs.laws.step_keeps_above_the_floor.Goals as goal

pub returns : goal.returns
returns c = step_keeps

use Rattle.store_model.proofs.KeepsHolds.{step_keeps}
use Rattle.store_model.proofs.laws.step_keeps_what_is_open.Goals as goal

pub returns : goal.returns
returns c = step_keeps

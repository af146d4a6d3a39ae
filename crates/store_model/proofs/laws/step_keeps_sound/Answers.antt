use Rattle.store_model.proofs.KeepsSound.{step_keeps}
use Rattle.store_model.proofs.laws.step_keeps_sound.Goals as goal

pub returns : goal.returns
returns c = step_keeps

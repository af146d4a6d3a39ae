use Rattle.store_model.proofs.KeepsSizes.{step_keeps}
use Rattle.store_model.proofs.laws.step_keeps_counts.Goals as goal

pub returns : goal.returns
returns c = step_keeps

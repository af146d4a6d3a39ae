use Rattle.store_model.proofs.KeepsFirsts.{look_is}
use Rattle.store_model.proofs.laws.look_is_the_history.Goals as goal

pub returns : goal.returns
returns c = look_is

use Rattle.store_model.proofs.TellsHistory.{step_tells}
use Rattle.store_model.proofs.laws.step_tells_the_history.Goals as goal

pub returns : goal.returns
returns c = step_tells

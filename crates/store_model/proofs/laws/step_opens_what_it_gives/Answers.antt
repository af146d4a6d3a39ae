use Rattle.store_model.proofs.TellsHistory.{step_opens}
use Rattle.store_model.proofs.laws.step_opens_what_it_gives.Goals as goal

pub returns : goal.returns
returns c = step_opens

use Rattle.store_model.proofs.KeepsHolds.{grown_up}
use Rattle.store_model.proofs.laws.the_past_stays.Goals as goal

pub returns : goal.returns
returns c = grown_up

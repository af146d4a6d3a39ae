use Rattle.store_model.proofs.HistoryLaws.{grows}
use Rattle.store_model.proofs.laws.history_grows.Goals as goal

pub returns : goal.returns
returns c = grows

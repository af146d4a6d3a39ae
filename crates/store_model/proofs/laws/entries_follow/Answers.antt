use Rattle.store_model.proofs.HistoryLaws.{goes_on}
use Rattle.store_model.proofs.laws.entries_follow.Goals as goal

pub returns : goal.returns
returns c = goes_on

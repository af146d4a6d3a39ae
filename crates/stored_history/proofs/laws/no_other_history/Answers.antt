use Rattle.stored_history.proofs.OneHistory.{no_other}
use Rattle.stored_history.proofs.laws.no_other_history.Goals as goal

pub returns : goal.returns
returns c = no_other

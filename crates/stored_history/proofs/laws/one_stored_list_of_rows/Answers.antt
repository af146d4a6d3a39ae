use Rattle.stored_history.proofs.OneHistory.{one_stored}
use Rattle.stored_history.proofs.laws.one_stored_list_of_rows.Goals as goal

pub returns : goal.returns
returns c = one_stored

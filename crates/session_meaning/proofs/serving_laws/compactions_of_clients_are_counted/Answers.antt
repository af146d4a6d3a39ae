use Rattle.session_meaning.proofs.ServedCounts.{counted_there}
use Rattle.session_meaning.proofs.serving_laws.compactions_of_clients_are_counted.Goals as goal

pub returns : goal.returns
returns c = counted_there

use Rattle.session_meaning.proofs.ServedReadOnly.{breaks_once, stays_so, told_stopped}
use Rattle.session_meaning.proofs.serving_faults.a_store_of_clients_stays_read_only.Goals as goal

pub returns-clause-stays : goal.returns-clause-stays
returns-clause-stays c = stays_so

pub returns-clause-begins : goal.returns-clause-begins
returns-clause-begins c = breaks_once

pub returns-clause-told : goal.returns-clause-told
returns-clause-told c = told_stopped

use Rattle.port_history.proofs.Chains.{legal_history, legal_faults}
use Rattle.port_history.proofs.laws.legal_entries_make_the_history.Goals as goal

pub returns-clause-history : goal.returns-clause-history
returns-clause-history c = legal_history

pub returns-clause-faults : goal.returns-clause-faults
returns-clause-faults c = legal_faults

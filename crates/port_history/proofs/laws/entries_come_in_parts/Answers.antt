use Rattle.port_history.proofs.Chains.{own_append, history_append, open_append}
use Rattle.port_history.proofs.laws.entries_come_in_parts.Goals as goal

pub returns-clause-own : goal.returns-clause-own
returns-clause-own c = own_append

pub returns-clause-history : goal.returns-clause-history
returns-clause-history c = history_append

pub returns-clause-holds : goal.returns-clause-holds
returns-clause-holds c = open_append

use Rattle.session_meaning.proofs.ServedRounds.{flush_counted, joined_counted}
use Rattle.session_meaning.proofs.serving_rounds.rounds_of_clients_are_counted.Goals as goal

pub returns-clause-flushed : goal.returns-clause-flushed
returns-clause-flushed c = flush_counted

pub returns-clause-joined : goal.returns-clause-joined
returns-clause-joined c = joined_counted

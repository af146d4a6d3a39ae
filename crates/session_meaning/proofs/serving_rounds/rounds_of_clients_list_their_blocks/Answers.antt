use Rattle.session_meaning.proofs.ServedJobs.{compaction_lists, flush_lists}
use Rattle.session_meaning.proofs.serving_rounds.rounds_of_clients_list_their_blocks.Goals as goal

pub returns-clause-flushed : goal.returns-clause-flushed
returns-clause-flushed c = flush_lists

pub returns-clause-joined : goal.returns-clause-joined
returns-clause-joined c = compaction_lists

use Rattle.session_meaning.proofs.ReclaimLaws.{files_emptied, reclaim_caused}
use Rattle.session_meaning.proofs.laws.reclaims_have_their_causes.Goals as goal

pub returns-clause-refused : goal.returns-clause-refused
returns-clause-refused c = λ told before after why is. reclaim_caused before after is.0 why is.1 is.2

pub returns-clause-emptied : goal.returns-clause-emptied
returns-clause-emptied c = λ told before after files is. files_emptied before after is.0 files is.1 is.2

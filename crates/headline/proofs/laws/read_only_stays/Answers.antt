use Rattle.headline.proofs.Stopped.{accept_none, session_stays, stays_from}
use Rattle.headline.proofs.laws.read_only_stays.Goals as goal

pub returns-clause-stays : goal.returns-clause-stays
returns-clause-stays c = session_stays

pub returns-clause-from_a_push : goal.returns-clause-from_a_push
returns-clause-from_a_push c = stays_from c.pushes_have_their_causes.ensures.refused

pub returns-clause-accepts_none : goal.returns-clause-accepts_none
returns-clause-accepts_none c = accept_none

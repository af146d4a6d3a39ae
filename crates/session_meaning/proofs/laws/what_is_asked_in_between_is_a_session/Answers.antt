use Rattle.session_meaning.proofs.Acts.{asks_session, done_parts}
use Rattle.session_meaning.proofs.laws.what_is_asked_in_between_is_a_session.Goals as goal

pub returns-clause-asked : goal.returns-clause-asked
returns-clause-asked c = asks_session

pub returns-clause-parts : goal.returns-clause-parts
returns-clause-parts c = done_parts

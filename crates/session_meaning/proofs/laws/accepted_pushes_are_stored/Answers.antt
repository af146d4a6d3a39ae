use Rattle.session_meaning.proofs.Acts.{stored_at_any_moment, stored_now}
use Rattle.session_meaning.proofs.laws.accepted_pushes_are_stored.Goals as goal

pub returns-clause-returned : goal.returns-clause-returned
returns-clause-returned c = stored_now

pub returns-clause-at_any_moment : goal.returns-clause-at_any_moment
returns-clause-at_any_moment c = stored_at_any_moment

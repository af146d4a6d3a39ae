use Rattle.session_meaning.proofs.PushCauses.{accepted_with_room, refused_for}
use Rattle.session_meaning.proofs.laws.pushes_have_their_causes.Goals as goal

pub returns-clause-refused : goal.returns-clause-refused
returns-clause-refused c = refused_for

pub returns-clause-accepted : goal.returns-clause-accepted
returns-clause-accepted c = accepted_with_room

use Rattle.session_meaning.proofs.ServedCauses.{accepted_there, refused_there}
use Rattle.session_meaning.proofs.serving_laws.pushes_of_clients_have_their_causes.Goals as goal

pub returns-clause-refused : goal.returns-clause-refused
returns-clause-refused c = refused_there

pub returns-clause-accepted : goal.returns-clause-accepted
returns-clause-accepted c = accepted_there

use Rattle.session_meaning.proofs.ServedPushes.{their_pushes}
use Rattle.session_meaning.proofs.serving_laws.clients_make_the_history.Goals as goal

pub returns : goal.returns
returns c = their_pushes

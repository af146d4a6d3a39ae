use Rattle.session_meaning.proofs.ServedCauses.{answered_there}
use Rattle.session_meaning.proofs.serving_laws.one_call_answers_at_its_place.Goals as goal

pub returns : goal.returns
returns c = answered_there

use Rattle.session_meaning.proofs.ServedLaws.{one_session}
use Rattle.session_meaning.proofs.serving_laws.one_script_is_a_session.Goals as goal

pub returns : goal.returns
returns c = one_session

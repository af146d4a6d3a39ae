use Rattle.session_meaning.proofs.Firsts.{stored_base}
use Rattle.session_meaning.proofs.laws.what_is_stored_is_a_base.Goals as goal

pub returns : goal.returns
returns c = stored_base

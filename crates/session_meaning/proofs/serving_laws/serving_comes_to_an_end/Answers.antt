use Rattle.session_meaning.proofs.ServedLaws.{serving_ends}
use Rattle.session_meaning.proofs.serving_laws.serving_comes_to_an_end.Goals as goal

pub returns : goal.returns
returns c = serving_ends

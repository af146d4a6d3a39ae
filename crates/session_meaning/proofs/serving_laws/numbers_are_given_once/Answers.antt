use Rattle.session_meaning.proofs.ServedLaws.{numbers_given_once}
use Rattle.session_meaning.proofs.serving_laws.numbers_are_given_once.Goals as goal

pub returns : goal.returns
returns c = numbers_given_once

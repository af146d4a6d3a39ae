use Rattle.store_model.proofs.FirstsExist.{firsts_exist}
use Rattle.store_model.proofs.laws.first_occurrences_exist.Goals as goal

pub returns : goal.returns
returns c = firsts_exist

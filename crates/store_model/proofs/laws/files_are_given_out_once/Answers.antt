use Rattle.store_model.proofs.GivesFresh.{gives_new}
use Rattle.store_model.proofs.laws.files_are_given_out_once.Goals as goal

pub returns : goal.returns
returns c = gives_new

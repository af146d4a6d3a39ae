use Rattle.store_model.proofs.KeepsSound.{out_of_use}
use Rattle.store_model.proofs.laws.used_files_are_not_emptied.Goals as goal

pub returns : goal.returns
returns c = out_of_use

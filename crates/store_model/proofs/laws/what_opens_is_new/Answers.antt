use Rattle.store_model.proofs.GivesFresh.{opens_apart}
use Rattle.store_model.proofs.laws.what_opens_is_new.Goals as goal

pub returns : goal.returns
returns c = opens_apart

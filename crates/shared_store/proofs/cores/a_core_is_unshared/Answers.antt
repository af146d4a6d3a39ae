use Rattle.shared_store.proofs.CoreLaws.{core_is_unshared}
use Rattle.shared_store.proofs.cores.a_core_is_unshared.Goals as goal

pub returns : goal.returns
returns g c = core_is_unshared g.D.Device

use denote.Param.{param}
use Rattle.shared_store.proofs.Crossing.{core_send}
use Rattle.shared_store.proofs.cores.a_core_crosses.Goals as goal

pub returns : goal.returns
returns g c = core_send (param 0 g.row.D)

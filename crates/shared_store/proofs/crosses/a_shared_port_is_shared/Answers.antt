use denote.Param.{param}
use Rattle.shared_store.proofs.shared.SharedPort.TheSendSync as shared
use Rattle.shared_store.proofs.crosses.a_shared_port_is_shared.Goals as goal

pub returns : goal.returns
returns g c = λ port. shared.the_sync (param 0 g.row.Q) g.Q.LookPort port

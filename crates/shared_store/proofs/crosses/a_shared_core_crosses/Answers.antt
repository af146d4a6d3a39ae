use denote.Param.{param}
use Rattle.store_core.specs.contracts.store.Core as Core
use Rattle.store_core.specs.contracts.port.CoreLookPort.TheImpl.{ghosts}
use Rattle.shared_store.proofs.Crossing.{core_send}
use Rattle.shared_store.proofs.shared.SharedPort.TheSendSync as shared
use Rattle.shared_store.proofs.ticket.PortTicket.TheSendSync as ticket
use Rattle.shared_store.proofs.crosses.a_shared_core_crosses.Goals as goal

pub returns-clause-ticket : goal.returns-clause-ticket
returns-clause-ticket g c = λ disk.
    ticket.the_send (Core.the_row (param 0 g.row.D)) (ghosts g.row.D g.D.Device g.D.Device-dict g.D.Device-dict) (core_send (param 0 g.row.D) disk)

pub returns-clause-shared : goal.returns-clause-shared
returns-clause-shared g c = λ disk.
    shared.the_sync (Core.the_row (param 0 g.row.D)) (ghosts g.row.D g.D.Device g.D.Device-dict g.D.Device-dict) (core_send (param 0 g.row.D) disk)

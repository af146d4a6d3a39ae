use denote.Param.{param}
use Rattle.shared_store.proofs.ticket.PortTicket.TheSendSync as ticket
use Rattle.shared_store.proofs.crosses.a_ticket_crosses.Goals as goal

pub returns : goal.returns
returns g c = λ port. ticket.the_send (param 0 g.row.Q) g.Q.LookPort port

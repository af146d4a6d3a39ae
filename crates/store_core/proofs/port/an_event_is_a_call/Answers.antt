use Rattle.store_core.proofs.PortEvents.{did_is_called}
use Rattle.store_core.proofs.port.an_event_is_a_call.Goals as goal

pub returns : goal.returns
returns g c = λ event reply did. did_is_called g.D.Device c.args.old.now event reply c.args.new.now did

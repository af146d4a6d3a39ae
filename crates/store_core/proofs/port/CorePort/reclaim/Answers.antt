use Rattle.store_core.proofs.PortEvents.{did_is_called}
use Rattle.store_core.proofs.port.CorePort.reclaim.Goals as goal

pub returns : goal.returns
returns g c = did_is_called g.D.Device c.args.self.now _ _ _ c.reclaim.ensures

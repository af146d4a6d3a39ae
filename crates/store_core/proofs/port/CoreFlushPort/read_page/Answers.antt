use Rattle.store_core.proofs.KeptCores.{left_kept}
use Rattle.store_core.proofs.PortEvents.{did_is_called, open_pin}
use Rattle.store_core.proofs.port.CoreFlushPort.read_page.Goals as goal

pub read_page-requires : goal.read_page-requires
read_page-requires g c = record { «open» = open_pin g.D.Device c.args.self.now c.args.pin.now c.args.block c.requires.open }

pub returns-clause-called : goal.returns-clause-called
returns-clause-called g c = did_is_called g.D.Device c.args.self.now _ _ _ c.read_page.ensures.did

pub returns-clause-left : goal.returns-clause-left
returns-clause-left g c = left_kept g.D.Device c.args.self.now c.read_page.new.self c.read_page.ensures.left

use Rattle.store_state.specs.Given.{flush_of}
use Rattle.store_core.proofs.PortEvents.{did_is_called, open_hold}
use Rattle.store_core.proofs.port.CoreFlushPort.drop_flush.Goals as goal

pub drop_flush-requires : goal.drop_flush-requires
drop_flush-requires g c = record { job = open_hold g.D.Device c.args.self.now (flush_of c.args.job) c.requires }

pub returns : goal.returns
returns g c = did_is_called g.D.Device c.args.self.now _ _ _ c.drop_flush.ensures

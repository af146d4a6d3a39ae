use Rattle.store_state.specs.Given.{compact_of}
use Rattle.store_core.proofs.PortEvents.{did_is_called, open_hold}
use Rattle.store_core.proofs.port.CorePort.drop_compact.Goals as goal

pub drop_compact-requires : goal.drop_compact-requires
drop_compact-requires g c = record { job = open_hold g.D.Device c.args.self.now (compact_of c.args.job) c.requires }

pub returns : goal.returns
returns g c = did_is_called g.D.Device c.args.self.now _ _ _ c.drop_compact.ensures

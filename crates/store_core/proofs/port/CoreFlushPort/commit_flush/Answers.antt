use Rattle.store_state.specs.Given.{flush_of}
use Rattle.store_core.proofs.PortEvents.{did_is_called, open_hold}
use Rattle.store_core.proofs.port.CoreFlushPort.commit_flush.Goals as goal

pub commit_flush-requires-clause-job : goal.commit_flush-requires-clause-job
commit_flush-requires-clause-job g c = open_hold g.D.Device c.args.self.now (flush_of c.args.job) c.requires.open

pub returns : goal.returns
returns g c = did_is_called g.D.Device c.args.self.now _ _ _ c.commit_flush.ensures

use Rattle.store_state.specs.Given.{compact_of}
use Rattle.store_core.proofs.PortEvents.{did_is_called, open_hold}
use Rattle.store_core.proofs.port.CorePort.commit_compact.Goals as goal

pub commit_compact-requires-clause-job : goal.commit_compact-requires-clause-job
commit_compact-requires-clause-job g c = open_hold g.D.Device c.args.self.now (compact_of c.args.job) c.requires.open

pub returns : goal.returns
returns g c = did_is_called g.D.Device c.args.self.now _ _ _ c.commit_compact.ensures

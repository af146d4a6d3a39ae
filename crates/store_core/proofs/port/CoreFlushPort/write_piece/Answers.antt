use Rattle.store_core.proofs.PortEvents.{did_is_called, open_job}
use Rattle.store_core.proofs.port.CoreFlushPort.write_piece.Goals as goal

pub write_piece-requires-clause-job : goal.write_piece-requires-clause-job
write_piece-requires-clause-job g c = open_job g.D.Device c.args.self.now c.args.out.now c.requires.open

pub returns-clause-called : goal.returns-clause-called
returns-clause-called g c = did_is_called g.D.Device c.args.self.now _ _ _ c.write_piece.ensures.did

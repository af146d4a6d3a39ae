use Rattle.store_core.proofs.KeptCores.{left_kept}
use Rattle.store_core.proofs.PortEvents.{did_is_called, open_look}
use Rattle.store_core.proofs.port.CoreLookPort.done.Goals as goal

pub end_look-requires : goal.end_look-requires
end_look-requires g c = record { «open» = open_look g.D.Device c.args.self.now c.args.look c.requires }

pub returns-clause-called : goal.returns-clause-called
returns-clause-called g c = did_is_called g.D.Device c.args.self.now _ _ _ c.end_look.ensures.did

pub returns-clause-left : goal.returns-clause-left
returns-clause-left g c = left_kept g.D.Device c.args.self.now c.end_look.new.self c.end_look.ensures.left

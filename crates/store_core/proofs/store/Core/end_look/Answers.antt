use Rattle.std.proofs.Common.{refl}
use Rattle.store_core.proofs.LookEvents.{did_done}
use Rattle.store_core.proofs.store.Core.end_look.Goals as goal

pub returns-clause-did : goal.returns-clause-did
returns-clause-did g c = did_done g.D.Device g.met.D.Device.only_now c.args.self.now c.free_number.new.pins c.args.look.pin.number c.requires.open c.free_number.ensures.taken c.free_number.ensures.files

pub returns-clause-left : goal.returns-clause-left
returns-clause-left g c = record { infos = refl; live = refl; telling = refl; bytes = λ told file. refl }

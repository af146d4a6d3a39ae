use Rattle.client_run.proofs.PinLemmas.{own_pins}
use Rattle.client_run.proofs.laws.looks_have_their_own_pins.Goals as goal

pub returns : goal.returns
returns g c = λ calls made m stands. own_pins g.D.Device c.args.old.now c.args.new.now calls made m stands

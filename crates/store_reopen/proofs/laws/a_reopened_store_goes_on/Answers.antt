use Rattle.store_reopen.proofs.Through.{goes_on}
use Rattle.store_reopen.proofs.laws.a_reopened_store_goes_on.Goals as goal

pub returns : goal.returns
returns g c = λ h unsure moment told keeps opened. goes_on g.D.Device g.met.D.Device.held_may_stay c.args.disk.now c.args.core.now h unsure moment told keeps opened

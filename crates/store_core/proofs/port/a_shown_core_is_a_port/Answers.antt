use Rattle.store_core.proofs.PortEvents.{holds_nothing}
use Rattle.store_core.proofs.port.a_shown_core_is_a_port.Goals as goal

pub returns : goal.returns
returns g c = λ m shown. holds_nothing g.D.Device c.args.core.now m shown

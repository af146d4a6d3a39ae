use Rattle.std.proofs.Common.{refl}
use Rattle.store_core.proofs.KeptCores.{outside_is}
use Rattle.store_core.proofs.port.a_core_keeps_its_blocks.Goals as goal

pub returns : goal.returns
returns g c = λ told m s. record { told = told; infos = refl; blocks = s.stands.built told; outside = outside_is c.args.core.now.state m s.stands.has }

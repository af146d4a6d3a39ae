use Rattle.hostile_tests.proofs.Holds.{goes_on}
use Rattle.hostile_tests.proofs.script.reclaims.Goals as goal

pub returns : goal.returns
returns g c = goes_on g.P.LookPort.meaning c.args.port.now c.reclaim-emptied.new.self _ _ c.reclaim-emptied.ensures c.requires

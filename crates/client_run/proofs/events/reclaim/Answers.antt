use Rattle.client_run.proofs.EventLemmas.{has_reclaimed}
use Rattle.client_run.proofs.events.reclaim.Goals as goal

pub returns : goal.returns
returns g c = has_reclaimed g.P.LookPort.meaning c.args.port.now c.reclaim.new.self c.reclaim.result c.reclaim.ensures

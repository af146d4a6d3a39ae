use Rattle.client_run.proofs.EventLemmas.{has_cut}
use Rattle.client_run.proofs.events.cut.Goals as goal

pub returns : goal.returns
returns g c = has_cut g.P.LookPort.meaning c.args.port.now c.cut.new.self c.args.moment c.cut.result c.cut.ensures

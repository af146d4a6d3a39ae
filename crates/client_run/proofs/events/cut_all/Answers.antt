use Rattle.client_run.proofs.EventLemmas.{has_cut_all}
use Rattle.client_run.proofs.events.cut_all.Goals as goal

pub returns : goal.returns
returns g c = has_cut_all g.P.LookPort.meaning c.args.port.now c.cut_all.new.self c.cut_all.result c.cut_all.ensures

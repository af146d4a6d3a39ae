use Rattle.client_run.proofs.EventLemmas.{has_pushed}
use Rattle.client_run.proofs.events.push.Goals as goal

pub returns-clause-answered : goal.returns-clause-answered
returns-clause-answered g c = λ looks flush ready.
    has_pushed g.P.LookPort.meaning c.args.port.now c.push.new.self c.args.batch.now c.in_ok-batch.batch c.args.moment c.push.result c.in_ok-batch.ensures c.push.ensures
    looks flush ready

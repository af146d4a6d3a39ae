use Rattle.std.proofs.lemmas.Result.{err_from_is_err_and}
use Rattle.client_run.specs.Taken.{looks_of}
use Rattle.client_run.proofs.EventLemmas.{has_looked, has_not_looked, looked_untold}
use Rattle.client_run.proofs.LookLemmas.{looks_push}
use Rattle.client_run.proofs.events.take_look.Goals as goal

pub returns-in-Err-clause-answered : goal.returns-in-Err-clause-answered
returns-in-Err-clause-answered g c = λ flush ready.
    has_not_looked g.P.LookPort.meaning c.args.port.now c.look.new.self c.in-Err.error (looks_of c.args.looks.now.items) flush ready c.in-Err.ensures.called

pub returns-in_err-copies-clause-stopped : goal.returns-in_err-copies-clause-stopped
returns-in_err-copies-clause-stopped g c = λ flush ready.
    let p = err_from_is_err_and c.from_residual.result c.from_residual.ensures.1 in
    rw p.1 (looked_untold g.P.LookPort.meaning c.args.port.now c.look.new.self c.in-Ok.look (looks_of c.args.looks.now.items) flush ready c.in-Ok.ensures.called)

pub returns-in_err-push-clause-stopped : goal.returns-in_err-push-clause-stopped
returns-in_err-push-clause-stopped g c = λ flush ready.
    let p = err_from_is_err_and c.from_residual-in_err-push.result c.from_residual-in_err-push.ensures.1 in
    rw p.1 (looked_untold g.P.LookPort.meaning c.args.port.now c.look.new.self c.in-Ok.look (looks_of c.args.looks.now.items) flush ready c.in-Ok.ensures.called)

pub returns-clause-answered : goal.returns-clause-answered
returns-clause-answered g c = λ flush ready.
    has_looked g.P.LookPort.meaning c.args.port.now c.look.new.self c.in-Ok.look c.in_ok-copies.field-0
    (looks_of c.args.looks.now.items) (looks_of c.push.new.self.items) flush ready c.in-Ok.ensures.called c.in_ok-copies.ensures
    (looks_push c.args.looks.now.items c.push.new.self.items c.in-Ok.look c.in_ok-push.ensures.items)

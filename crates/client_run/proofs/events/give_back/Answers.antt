use Rattle.store_state.specs.Given.{look_of}
use Rattle.client_run.specs.Taken.{looks_of}
use Rattle.client_run.proofs.EventLemmas.{has_ended, is_idle}
use Rattle.client_run.proofs.LookLemmas.{open_at}
use Rattle.client_run.proofs.events.give_back.Goals as goal

pub done-requires : goal.done-requires
done-requires g c =
    open_at g.P.LookPort.meaning c.args.port.now c.args.number (looks_of c.args.looks.now.items) (look_of c.in-Some.look) c.in-Some.ensures.open c.requires.1.open_looks

pub returns-in-Some : goal.returns-in-Some
returns-in-Some g c = λ flush ready.
    has_ended g.P.LookPort.meaning c.args.port.now c.done.new.self c.args.number c.in-Some.look
    (looks_of c.args.looks.now.items) (looks_of c.end_look.new.looks.items) flush ready c.in-Some.ensures.open c.done.ensures.called c.in-Some.ensures.ended

pub returns-in-None : goal.returns-in-None
returns-in-None g c = λ flush ready.
    is_idle g.P.LookPort.meaning c.args.port.now c.args.number (looks_of c.args.looks.now.items) (looks_of c.end_look.new.looks.items) flush ready
    c.in-None.ensures.closed.0 c.in-None.ensures.closed.1

use Rattle.std.proofs.Common.{inr, arith}
use Rattle.std.proofs.lemmas.Result.{err_from_is_err_and}
use Rattle.client_run.specs.Taken.{looks_of}
use Rattle.client_run.proofs.RunLemmas.{run_ends, run_step, run_stops}
use Rattle.client_run.proofs.events.run_events.Goals as goal

pub returns-in_err-reply-clause-stopped : goal.returns-in_err-reply-clause-stopped
returns-in_err-reply-clause-stopped g c =
    let p = err_from_is_err_and c.from_residual.result c.from_residual.ensures.1 in
    rw p.1 (run_stops g.P.LookPort.meaning c.args.port.now c.loop-event.port c.run_event.new.port c.as_slice-all.result.now c.args.events.now
    c.loop-event.event-index c.event-item.result c.loop-event.replies.items (looks_of c.loop-event.looks.items) c.loop-event.tasks c.loop-event.invariant
    c.in_err-reply.ensures.stopped c.loop-event-test.true c.event-item.is c.as_slice-all.ensures)

pub returns-in_err-push-clause-stopped : goal.returns-in_err-push-clause-stopped
returns-in_err-push-clause-stopped g c =
    let p = err_from_is_err_and c.from_residual-in_err-push.result c.from_residual-in_err-push.ensures.1 in
    rw p.1 (run_stops g.P.LookPort.meaning c.args.port.now c.loop-event.port c.run_event.new.port c.as_slice-all.result.now c.args.events.now
    c.loop-event.event-index c.event-item.result c.loop-event.replies.items (looks_of c.loop-event.looks.items) c.loop-event.tasks c.loop-event.invariant
    (inr (c.in_ok-reply.reply, looks_of c.run_event.new.looks.items, c.run_event.new.tasks, c.in_ok-reply.ensures.answered))
    c.loop-event-test.true c.event-item.is c.as_slice-all.ensures)

pub loop-event-preserved : goal.loop-event-preserved
loop-event-preserved g c =
    run_step g.P.LookPort.meaning c.args.port.now c.loop-event.port c.run_event.new.port c.as_slice-all.result.now
    c.loop-event.event-index c.event-item.result c.loop-event.replies.items c.push.new.self.items c.in_ok-reply.reply
    (looks_of c.loop-event.looks.items) (looks_of c.run_event.new.looks.items) c.loop-event.tasks c.run_event.new.tasks c.loop-event.invariant
    c.in_ok-reply.ensures.answered c.loop-event-test.true c.event-item.is c.in_ok-push.ensures.items

pub returns-clause-ran : goal.returns-clause-ran
returns-clause-ran g c =
    run_ends g.P.LookPort.meaning c.args.port.now c.loop-event.port c.as_slice-all.result.now c.args.events.now
    c.loop-event.event-index c.loop-event.replies.items c.of.result (looks_of c.loop-event.looks.items) c.loop-event.tasks c.loop-event.invariant
    (omega (arith, c.loop-event-test.false)) c.as_slice-all.ensures c.of.ensures

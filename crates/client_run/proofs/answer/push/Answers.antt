use Rattle.std.proofs.Common.{Err, Ok, ap}
use Rattle.session_text.specs.declared.reply.Reply.TheVariants.{Pushed, Refused}
use Rattle.client_run.proofs.AnswerLemmas.{push_replied}
use Rattle.client_run.proofs.answer.push.Goals as goal

pub returns-in-Ok : goal.returns-in-Ok
returns-in-Ok g c =
    push_replied g.P.LookPort.meaning c.args.port.now c.push.new.self c.args.reading c.args.moment (Ok c.in-Ok.number)
    (Pushed c.in-Ok.number c.count_of-accepted.result c.args.reading.rejected c.args.reading.skipped) c.in-Ok.ensures
    (ap (λ k. Pushed c.in-Ok.number k c.args.reading.rejected c.args.reading.skipped) c.count_of-accepted.ensures)

pub returns-in-Err : goal.returns-in-Err
returns-in-Err g c =
    push_replied g.P.LookPort.meaning c.args.port.now c.push.new.self c.args.reading c.args.moment (Err c.in-Err.error)
    (Refused c.refusal_of.result) c.in-Err.ensures (ap Refused c.refusal_of.ensures)

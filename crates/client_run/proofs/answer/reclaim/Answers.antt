use Rattle.std.proofs.Common.{Err, Ok, ap, refl}
use Rattle.session_text.specs.declared.reply.Reply.TheVariants.{Reclaimed, Refused}
use Rattle.client_run.proofs.AnswerLemmas.{reclaim_replied}
use Rattle.client_run.proofs.answer.reclaim.Goals as goal

pub returns-in-Ok : goal.returns-in-Ok
returns-in-Ok g c =
    reclaim_replied g.P.LookPort.meaning c.args.port.now c.reclaim.new.self (Ok c.in-Ok.files) (Reclaimed c.in-Ok.files) c.in-Ok.ensures refl

pub returns-in-Err : goal.returns-in-Err
returns-in-Err g c =
    reclaim_replied g.P.LookPort.meaning c.args.port.now c.reclaim.new.self (Err c.in-Err.error) (Refused c.reclaim_cause.result) c.in-Err.ensures
    (ap Refused c.reclaim_cause.ensures)

use Rattle.std.proofs.Common.{Err, Ok, refl}
use Rattle.session_text.specs.declared.refusal.Refusal.TheVariants.{Memory}
use Rattle.session_text.specs.declared.reply.Reply.TheVariants.{CutAll, Refused}
use Rattle.client_run.proofs.AnswerLemmas.{cut_all_replied}
use Rattle.client_run.proofs.answer.cut_all.Goals as goal

pub returns-in-Ok : goal.returns-in-Ok
returns-in-Ok g c =
    cut_all_replied g.P.LookPort.meaning c.args.port.now c.cut_all.new.self (Ok c.in-Ok.moved) (CutAll c.in-Ok.moved) c.in-Ok.ensures refl

pub returns-in-Err : goal.returns-in-Err
returns-in-Err g c =
    cut_all_replied g.P.LookPort.meaning c.args.port.now c.cut_all.new.self (Err c.in-Err.field-0) (Refused Memory) c.in-Err.ensures refl

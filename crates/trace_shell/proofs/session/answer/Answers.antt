use Rattle.std.proofs.Common.{Err, Ok}
use Rattle.session_meaning.proofs.SessionLaws.{one_refused, one_replied}
use Rattle.trace_shell.proofs.session.answer.Goals as goal

pub returns-in-Ok : goal.returns-in-Ok
returns-in-Ok g c =
    let asked = c.in-Ok.ensures.asked in (
      asked.0,
      asked.1,
      Ok c.in-Ok.request,
      asked.2,
      one_replied g.Q.LookPort.meaning c.args.port.now c.answer_request.new.port c.in-Ok.request c.answer_request.result c.answer_request.ensures,
    )

pub returns-in-Err : goal.returns-in-Err
returns-in-Err g c =
    let asked = c.in-Err.ensures.asked in
    (asked.0, asked.1, Err c.in-Err.why, asked.2, one_refused g.Q.LookPort.meaning c.args.port.now c.in-Err.why)

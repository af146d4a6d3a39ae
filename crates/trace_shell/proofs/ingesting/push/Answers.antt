use Rattle.std.proofs.Common.{Err, Ok}
use Rattle.store_core.specs.Port.{port_of}
use Rattle.session_meaning.proofs.SessionLaws.{one_refused, one_replied}
use Rattle.trace_shell.proofs.ingesting.push.Goals as goal

pub returns-in-Ok : goal.returns-in-Ok
returns-in-Ok g c = (
  Ok c.in-Ok.request,
  c.in-Ok.ensures.asked,
  one_replied (port_of g.D.Device) c.args.core.now c.answer_request.new.port c.in-Ok.request c.answer_request.result c.answer_request.ensures,
)

pub returns-in-Err : goal.returns-in-Err
returns-in-Err g c = (Err c.in-Err.why, c.in-Err.ensures.asked, one_refused (port_of g.D.Device) c.args.core.now c.in-Err.why)

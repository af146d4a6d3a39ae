use Rattle.std.proofs.Common.{subst, sym}
use Rattle.store_core.specs.Port.{port_of}
use Rattle.session_text.specs.declared.reply.Reply.TheVariants.{Refused}
use Rattle.session_text.specs.declared.request.Request.TheVariants.{Push}
use Rattle.line_windows.specs.Windows.{pushed_at}
use Rattle.session_meaning.specs.Progress.{HasAnsweredOne}
use Rattle.session_meaning.proofs.SessionLaws.{one_refused, one_replied}
use Rattle.trace_shell.proofs.ingesting.push_given.Goals as goal

pub returns-in-Ok : goal.returns-in-Ok
returns-in-Ok g c =
    subst (λ r. HasAnsweredOne (port_of g.D.Device) c.args.core.now (pushed_at c.args.moment r) c.answer_request.result c.answer_request.new.port) (sym c.in-Ok.is)
    (one_replied (port_of g.D.Device) c.args.core.now c.answer_request.new.port (Push c.in-Ok.reading c.args.moment) c.answer_request.result c.answer_request.ensures)

pub returns-in-Err : goal.returns-in-Err
returns-in-Err g c =
    subst (λ r. HasAnsweredOne (port_of g.D.Device) c.args.core.now (pushed_at c.args.moment r) (Refused c.in-Err.why) c.args.core.now) (sym c.in-Err.is) (one_refused (port_of g.D.Device) c.args.core.now c.in-Err.why)

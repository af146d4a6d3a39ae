use Rattle.client_run.proofs.AnswerLemmas.{trace_replied}
use Rattle.client_run.proofs.answer.trace.Goals as goal

pub returns : goal.returns
returns g c =
    trace_replied g.P.LookPort.meaning c.args.port.now c.find_trace.new.port c.args.id c.find_trace.result c.trace_reply.result c.find_trace.ensures.asked c.trace_reply.ensures

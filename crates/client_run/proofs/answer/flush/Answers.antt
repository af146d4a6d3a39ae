use Rattle.client_run.proofs.AnswerLemmas.{flush_replied}
use Rattle.client_run.proofs.answer.flush.Goals as goal

pub returns : goal.returns
returns g c =
    flush_replied g.P.LookPort.meaning c.args.port.now c.flush_round.new.port c.flush_round.result c.flush_reply.result c.flush_round.ensures c.flush_reply.ensures

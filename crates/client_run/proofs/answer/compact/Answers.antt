use Rattle.client_run.proofs.AnswerLemmas.{compact_replied}
use Rattle.client_run.proofs.answer.compact.Goals as goal

pub returns : goal.returns
returns g c =
    compact_replied g.P.LookPort.meaning c.args.port.now c.compact_round.new.port c.compact_round.result c.compact_reply.result c.compact_round.ensures.made
    c.compact_round.ensures.told c.compact_reply.ensures

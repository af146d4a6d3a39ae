use Rattle.client_run.proofs.AnswerLemmas.{metrics_replied}
use Rattle.client_run.proofs.answer.metrics.Goals as goal

pub returns : goal.returns
returns g c =
    metrics_replied g.P.LookPort.meaning c.args.port.now c.search-answer.new.port c.args.asks c.counted_of-asked.result c.search-answer.result c.series_reply.result
    c.counted_of-asked.ensures c.search-answer.ensures.asked c.series_reply.ensures

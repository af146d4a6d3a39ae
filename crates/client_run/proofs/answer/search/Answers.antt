use Rattle.client_run.proofs.AnswerLemmas.{search_replied}
use Rattle.client_run.proofs.answer.search.Goals as goal

pub returns : goal.returns
returns g c =
    search_replied g.P.LookPort.meaning c.args.port.now c.search-answer.new.port c.args.asks c.asked_of-asked.result c.search-answer.result c.search_reply.result
    c.asked_of-asked.ensures c.search-answer.ensures.asked c.search_reply.ensures

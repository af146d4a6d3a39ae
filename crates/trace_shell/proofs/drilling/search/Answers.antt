use Rattle.trace_shell.proofs.DrillLemmas.{made_one}
use Rattle.trace_shell.proofs.drilling.search.Goals as goal

pub returns-clause-asked : goal.returns-clause-asked
returns-clause-asked g c =
    let answered = c.answer-reply.ensures in (
      answered.2,
      answered.0,
      answered.1,
      made_one g.D.Device c.args.core.now c.answer-reply.new.port c.args.counts.now c.add.new.self answered.2 c.answer-reply.result answered.4 c.add.ensures,
      c.now-moment.result,
      c.now-moment.ensures.moment,
      answered.3,
    )

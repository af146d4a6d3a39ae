use Rattle.trace_shell.proofs.session.answer_line.Goals as goal

pub returns-clause-answered : goal.returns-clause-answered
returns-clause-answered g c = λ some.
    let done = c.act_on-reply.ensures.done in (
      done.0,
      done.1,
      done.2,
      c.act_on-reply.result.0,
      done.4,
      (c.now-moment.result, c.now-moment.ensures.moment, done.3),
      c.now-moment.ensures.later,
      c.write-ended.ensures.given,
    )

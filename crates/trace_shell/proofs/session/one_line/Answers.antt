use Rattle.std.proofs.Common.{Some, None, sym, subst}
use Rattle.session_meaning.specs.Session.{EndsAlone}
use Rattle.trace_shell.specs.Turn.{HasGiven}
use Rattle.trace_shell.specs.declared.session.Tally.{Tally}
use Rattle.trace_shell.proofs.AloneLemmas.{empty_tally, stopped_alone, written_alone}
use Rattle.trace_shell.proofs.session.one_line.Goals as goal

pub returns-in-Some-clause-told : goal.returns-in-Some-clause-told
returns-in-Some-clause-told g c =
    let answered = c.answer-reply.ensures in (
      answered.2,
      c.answer-reply.result,
      answered.0,
      answered.1,
      answered.4,
      (c.now-moment.result, c.now-moment.ensures.moment, answered.3),
      λ before taken.
          let old = g.K.Sink.taken c.args.sink.now in
          let new = g.K.Sink.taken c.write.new.sink in
          let given : HasGiven old new empty_tally c.write.new.tally c.answer-reply.result (Some c.in-Some.ending) =
          subst (λ (t : Tally). HasGiven old new t c.write.new.tally c.answer-reply.result (Some c.in-Some.ending)) c.new-tally.ensures
          (subst (λ o. HasGiven old new c.new-tally.result c.write.new.tally c.answer-reply.result o) c.in-Some.is c.write.ensures.given) in
          stopped_alone before old new c.write.new.tally c.answer-reply.result c.in-Some.ending taken given,
    )

pub returns-clause-told : goal.returns-clause-told
returns-clause-told g c =
    let answered = c.answer-reply.ensures in (
      answered.2,
      c.answer-reply.result,
      answered.0,
      answered.1,
      answered.4,
      (c.now-moment.result, c.now-moment.ensures.moment, answered.3),
      λ before taken.
          let old = g.K.Sink.taken c.args.sink.now in
          let new = g.K.Sink.taken c.write.new.sink in
          let given : HasGiven old new empty_tally c.write.new.tally c.answer-reply.result None =
          subst (λ (t : Tally). HasGiven old new t c.write.new.tally c.answer-reply.result None) c.new-tally.ensures
          (subst (λ o. HasGiven old new c.new-tally.result c.write.new.tally c.answer-reply.result o) c.in-None.is c.write.ensures.given) in
          let ended = written_alone before old new c.write.new.tally c.answer-reply.result taken given in
          subst (λ e. EndsAlone e before c.answer-reply.result new) (sym c.ending.ensures) ended,
    )

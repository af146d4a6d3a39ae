use Rattle.std.proofs.Common.{subst}
use Rattle.session_text.specs.declared.reply.Reply.{Reply}
use Rattle.trace_shell.specs.Turn.{HasGiven}
use Rattle.trace_shell.proofs.session.refuse_line.Goals as goal

pub returns-clause-given : goal.returns-clause-given
returns-clause-given g c =
    subst (λ (r : Reply). HasGiven (g.K.Sink.taken c.args.sink.now) (g.K.Sink.taken c.write.new.sink) c.args.tally.now c.write.new.tally r c.write.result) c.refused_long-reply.ensures
    c.write.ensures.given

use Rattle.std.proofs.Common.{[], refl}
use Rattle.session_meaning.specs.Serving.{reply_to}
use Rattle.trace_shell.proofs.WritingLemmas.{appends_nothing}
use Rattle.trace_shell.proofs.serving.write_to.Goals as goal

pub returns-in-Err-clause-given : goal.returns-in-Err-clause-given
returns-in-Err-clause-given g c = ([], reply_to c.args.client c.args.reply.now, [], refl, appends_nothing (g.K.Sink.taken c.args.sink.now))

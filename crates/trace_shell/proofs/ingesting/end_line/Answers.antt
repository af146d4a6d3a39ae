use Rattle.trace_shell.proofs.IngestLemmas.{ended_unwritten, ended_written}
use Rattle.trace_shell.proofs.ingesting.end_line.Goals as goal

pub returns-in-Some-clause-ended : goal.returns-in-Some-clause-ended
returns-in-Some-clause-ended g c =
    ended_unwritten g.D.Device c.args.core.now _ _ _ c.write.new.tally c.args.reply.now c.write.result c.in-Some.ending c.in-Some.is c.write.ensures.given

pub returns-in-None-clause-ended : goal.returns-in-None-clause-ended
returns-in-None-clause-ended g c =
    let kept = c.keep_small.ensures.kept in
    ended_written g.D.Device c.args.core.now c.keep_small.new.core _ _ _ _ c.write.new.tally _ c.args.reply.now kept.0 kept.1 c.write.result c.keep_small.result
    c.in-None.is c.write.ensures.given kept.2 kept.3

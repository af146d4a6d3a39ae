use Rattle.std.proofs.Common.{ℕ, sym, subst}
use Rattle.block_read.specs.Answers.{RoseAtMost}
use Rattle.query_fanout.specs.Bounds.{look_up_pages}
use Rattle.query_fanout.specs.Reading.{AtMost}
use Rattle.query_fanout.specs.TraceAnswers.{IsTraceAnswer}
use Rattle.query_fanout.proofs.BlockLaws.{rose_none}
use Rattle.query_fanout.proofs.QueryLaws.{has_asked, is_open, not_looked, not_read, read_within, trace_tells_firsts}
use Rattle.query_fanout.proofs.trace.find_trace.Goals as goal

pub returns-in-Err-clause-asked : goal.returns-in-Err-clause-asked
returns-in-Err-clause-asked g c = not_looked g.P.LookPort.meaning c.args.port.now (IsTraceAnswer c.args.id) c.look.new.self c.in-Err.ensures.called

pub returns-in-Err-clause-bounded : goal.returns-in-Err-clause-bounded
returns-in-Err-clause-bounded g c = λ told kept keeps.
    let most = look_up_pages c.args.id kept.infos kept.parts in
    let before = g.P.LookPort.meaning.reads c.args.port.now in
    subst (λ (n : ℕ). RoseAtMost most before n) (sym (not_read g.P.LookPort.meaning c.args.port.now c.look.new.self c.in-Err.ensures.called)) (rose_none most before)

pub trace_of_look-found-requires : goal.trace_of_look-found-requires
trace_of_look-found-requires g c = is_open g.P.LookPort.meaning c.args.port.now c.look.new.self c.in-Ok.look c.in-Ok.ensures.called c.requires

pub done-requires : goal.done-requires
done-requires g c = c.trace_of_look-found.ensures.pages.stays.is_open

pub returns-clause-asked : goal.returns-clause-asked
returns-clause-asked g c =
    has_asked g.P.LookPort.meaning c.args.port.now (IsTraceAnswer c.args.id) c.look.new.self c.trace_of_look-found.new.port c.done.new.self c.in-Ok.look c.trace_of_look-found.result
    (trace_tells_firsts c.args.id) c.in-Ok.ensures.called c.in-Ok.ensures.shows c.trace_of_look-found.ensures c.done.ensures.called c.requires c.in-Ok.ensures.whole

pub returns-clause-bounded : goal.returns-clause-bounded
returns-clause-bounded g c = λ told kept keeps.
    read_within g.P.LookPort.meaning c.args.port.now (λ infos rows. AtMost (look_up_pages c.args.id infos)) c.look.new.self c.trace_of_look-found.new.port c.done.new.self c.in-Ok.look
    c.trace_of_look-found.result kept
    c.in-Ok.ensures.called (c.in-Ok.ensures.kept kept keeps) c.trace_of_look-found.ensures c.done.ensures.called told

use Rattle.client_run.proofs.CallLemmas.{holds_kept}
use Rattle.store_core.specs.Port.{port_of}
use Rattle.trace_shell.proofs.IngestLemmas.{empty_done, given_done}
use Rattle.trace_shell.proofs.ingesting.push_line.Goals as goal

pub end_line-requires-after_bounds : goal.end_line-requires-after_bounds
end_line-requires-after_bounds g c = λ κs outlives.
    let pushed = c.push_given-reply.ensures in holds_kept (port_of g.D.Device) c.args.core.now c.push_given-reply.new.core pushed.calls pushed.made c.requires

pub returns-in-Some-clause-pushed : goal.returns-in-Some-clause-pushed
returns-in-Some-clause-pushed g c =
    given_done g.D.Device c.args.core.now c.push_given-reply.new.core c.end_line.new.core _ _ _ _ c.args.line c.in-Some.given _ _ c.push_given-reply.result c.end_line.result c.now-moment.result
    c.in-Some.ensures.some c.now-moment.ensures.moment c.now-moment.ensures.later c.push_given-reply.ensures c.end_line.ensures.ended

pub returns-in-None-clause-pushed : goal.returns-in-None-clause-pushed
returns-in-None-clause-pushed g c = empty_done g.D.Device c.args.core.now _ c.args.tally.now c.args.line _ c.in-None.ensures.none

use Rattle.query_fanout.proofs.BlockLaws.{look_up_widens, read_failed, read_starved, read_told}
use Rattle.query_fanout.proofs.QueryLaws.{trace_answers}
use Rattle.query_fanout.proofs.trace.trace_of_look.Goals as goal

pub returns-in-Ok-trace_firsts : goal.returns-in-Ok-trace_firsts
returns-in-Ok-trace_firsts g c =
    let fits = trace_answers c.args.id c.args.look.now c.in-Ok.found c.in-Ok-trace_firsts.answer c.in-Ok-trace_firsts.ensures.firsts c.in-Ok-trace_firsts.ensures.count in
    read_told g.P.LookPort.meaning c.args.look.now c.args.look.now.pin.blocks (look_up_widens c.args.id c.args.look.now.pin.blocks) c.args.port.now c.of_blocks.new.port c.in-Ok.found
    c.in-Ok-trace_firsts.answer c.in-Ok.ensures fits fits

pub returns-in-Err-trace_firsts : goal.returns-in-Err-trace_firsts
returns-in-Err-trace_firsts g c =
    read_starved g.P.LookPort.meaning c.args.look.now c.args.look.now.pin.blocks (look_up_widens c.args.id c.args.look.now.pin.blocks) c.args.port.now c.of_blocks.new.port c.in-Ok.found c.in-Ok.ensures

pub returns-in-Err : goal.returns-in-Err
returns-in-Err g c =
    read_failed g.P.LookPort.meaning c.args.look.now c.args.look.now.pin.blocks (look_up_widens c.args.id c.args.look.now.pin.blocks) c.args.port.now c.of_blocks.new.port c.in-Err.error c.in-Err.ensures

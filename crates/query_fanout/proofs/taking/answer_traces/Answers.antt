use Rattle.query_fanout.proofs.BlockLaws.{read_failed, read_starved, read_told}
use Rattle.query_fanout.proofs.FewLaws.{answered_theirs, each_widens}
use Rattle.query_fanout.proofs.taking.answer_traces.Goals as goal

pub returns-in-Ok-answer_rows : goal.returns-in-Ok-answer_rows
returns-in-Ok-answer_rows g c =
    read_told g.P.LookPort.meaning c.args.look.now c.args.look.now.pin.blocks (each_widens c.args.ids.now c.args.look.now.pin.blocks) c.args.port.now c.of_blocks.new.port c.in-Ok.found
    c.in-Ok-answer_rows.best c.in-Ok.ensures
    (answered_theirs c.args.asked.now c.args.own.now c.in-Ok.found c.args.ids.now c.args.best c.in-Ok-answer_rows.best c.in-Ok-answer_rows.ensures) c.in-Ok-answer_rows.ensures

pub returns-in-Err-answer_rows : goal.returns-in-Err-answer_rows
returns-in-Err-answer_rows g c =
    read_starved g.P.LookPort.meaning c.args.look.now c.args.look.now.pin.blocks (each_widens c.args.ids.now c.args.look.now.pin.blocks) c.args.port.now c.of_blocks.new.port c.in-Ok.found c.in-Ok.ensures

pub returns-in-Err : goal.returns-in-Err
returns-in-Err g c =
    read_failed g.P.LookPort.meaning c.args.look.now c.args.look.now.pin.blocks (each_widens c.args.ids.now c.args.look.now.pin.blocks) c.args.port.now c.of_blocks.new.port c.in-Err.error c.in-Err.ensures

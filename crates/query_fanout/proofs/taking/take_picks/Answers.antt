use Rattle.std.proofs.Common.{◌++◌}
use Rattle.query_fanout.specs.Reading.{AtMost, look_ups}
use Rattle.query_fanout.specs.Searching.{TookTheirs, TookWith}
use Rattle.query_fanout.specs.Taking.{traces_of}
use Rattle.query_fanout.proofs.ApartLaws.{parts_apart}
use Rattle.query_fanout.proofs.BlockLaws.{read_nothing, rose_none}
use Rattle.query_fanout.proofs.TookLaws.{moved_parts, took_in_parts}
use Rattle.query_fanout.proofs.taking.take_picks.Goals as goal

pub returns-in-Err : goal.returns-in-Err
returns-in-Err g c =
    let look = c.args.look.now in
    let picks = c.args.picks.items in
    read_nothing g.P.LookPort.meaning look look.pin.blocks (TookTheirs c.args.asked.now c.args.own.now picks c.args.best) (TookWith c.args.asked.now c.args.own.now picks c.args.best)
    (AtMost (look_ups (traces_of picks) look.pin.blocks)) c.args.port.now c.requires.open
    (λ parts. rose_none (look_ups (traces_of picks) look.pin.blocks parts) (g.P.LookPort.meaning.reads c.args.port.now))

pub take_parts-requires-clause-apart : goal.take_parts-requires-clause-apart
take_parts-requires-clause-apart g c κs within =
    parts_apart c.args.picks.items (c.as_slice.result.now ++ c.as_slice-in-Ok.result.now)
    (moved_parts c.args.picks.items c.as_slice.result.now c.as_slice-in-Ok.result.now c.in-Ok.late.items c.in-Ok.early.items c.in-Ok.ensures.same c.as_slice.ensures.value c.as_slice-in-Ok.ensures.value)
    c.requires.ascend

pub returns-in-Ok : goal.returns-in-Ok
returns-in-Ok g c =
    took_in_parts g.P.LookPort.meaning c.args.look.now c.args.own.now c.args.asked.now c.args.picks.items (c.as_slice.result.now ++ c.as_slice-in-Ok.result.now) c.args.best c.args.port.now
    c.take_parts.new.port c.take_parts.result
    (moved_parts c.args.picks.items c.as_slice.result.now c.as_slice-in-Ok.result.now c.in-Ok.late.items c.in-Ok.early.items c.in-Ok.ensures.same c.as_slice.ensures.value c.as_slice-in-Ok.ensures.value)
    c.take_parts.ensures

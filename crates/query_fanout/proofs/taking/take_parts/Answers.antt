use Rattle.std.proofs.Common.{◌≡◌, List, ◌++◌, ap, map, subst, ◌∙◌}
use Rattle.std.specs.List.{flat_map}
use Rattle.block_read.specs.Answers.{RoseAtMost}
use Rattle.column_scan.specs.declared.picks.Pick.{Pick}
use Rattle.query_fanout.specs.Reading.{AtMost, look_ups}
use Rattle.query_fanout.specs.Searching.{TookTheirs, TookWith}
use Rattle.query_fanout.specs.Taking.{traces_of}
use Rattle.query_fanout.proofs.BlockLaws.{read_as, read_nothing, rose_none}
use Rattle.query_fanout.proofs.TookLaws.{same_turns}
use Rattle.query_fanout.proofs.taking.take_parts.Goals as goal

pub returns-in-Err : goal.returns-in-Err
returns-in-Err g c =
    let look = c.args.look.now in
    let picks = c.args.late.now ++ c.args.early.now in
    read_nothing g.P.LookPort.meaning look look.pin.blocks (TookTheirs c.args.asked.now c.args.own.now picks c.args.best) (TookWith c.args.asked.now c.args.own.now picks c.args.best)
    (AtMost (look_ups (traces_of picks) look.pin.blocks)) c.args.port.now c.requires.open
    (λ parts. rose_none (look_ups (traces_of picks) look.pin.blocks parts) (g.P.LookPort.meaning.reads c.args.port.now))

pub returns : goal.returns
returns g c =
    let look = c.args.look.now in
    let picks = c.args.late.now ++ c.args.early.now in
    let turns = c.as_slice.result.now in
    let whole : flat_map (λ few. few.now) turns ≡ picks = ap (flat_map (λ few. few.now)) c.as_slice.ensures.value ∙ c.in-Ok.ensures.same in
    read_as g.P.LookPort.meaning look look.pin.blocks
    (λ parts a b rose. subst (λ (l : List Pick). RoseAtMost (look_ups (traces_of l) look.pin.blocks parts) a b) whole rose)
    c.args.port.now c.take_each.new.port c.take_each.result
    (λ x rows took. (map (λ few. few.now) turns, same_turns turns (λ few. few.now) picks whole, took))
    (λ x rows took. (map (λ few. few.now) turns, same_turns turns (λ few. few.now) picks whole, took))
    c.take_each.ensures

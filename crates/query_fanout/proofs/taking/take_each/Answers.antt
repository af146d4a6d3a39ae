use Rattle.std.proofs.Common.{◌+◌, Ok, Err, List, map, take, arith, sym, subst}
use Rattle.std.proofs.lemmas.List.{take_all}
use Rattle.std.proofs.lemmas.Result.{err_from_is_err_and}
use Rattle.block_read.specs.Answers.{RoseAtMost}
use Rattle.column_scan.specs.declared.picks.Pick.{Pick}
use Rattle.query_fanout.specs.Reading.{look_ups}
use Rattle.query_fanout.specs.Taking.{traces_of}
use Rattle.query_fanout.proofs.TakenLaws.{flat_mapped, next_turn, turn_apart, turns_widen}
use Rattle.query_fanout.proofs.BlockLaws.{read_failed, read_widens}
use Rattle.query_fanout.proofs.TakeLaws.{Taken, taken_next, taken_none}
use Rattle.query_fanout.proofs.taking.take_each.Goals as goal

pub loop-few-init : goal.loop-few-init
loop-few-init g c = taken_none g.P.LookPort.meaning c.args.look.now c.args.own.now c.args.asked.now c.args.port.now c.args.best c.requires.open

pub loop-few-preserved : goal.loop-few-preserved
loop-few-preserved g c =
    let meaning = g.P.LookPort.meaning in
    let look = c.args.look.now in
    let asked = c.args.asked.now in
    let turns = c.args.turns.now in
    let i = c.loop-few.few-index in
    subst (λ (each : List (List Pick)). Taken meaning look c.args.own.now asked each c.args.best c.args.port.now (Ok c.in_ok-next.next) c.take_few.new.port) (sym (next_turn turns (λ few. few.now) i _ (omega arith)))
    (taken_next meaning look c.args.own.now asked c.takes_more.ensures.same c.takes_more.ensures.read c.args.port.now c.loop-few.port c.take_few.new.port (map (λ few. few.now) (take i turns)) _ c.args.best c.loop-few.best
    (Ok c.in_ok-next.next) (turn_apart turns (λ few. few.now) i _ (omega arith) c.requires.apart) c.loop-few.invariant c.in_ok-next.ensures)

pub returns-in_err-next : goal.returns-in_err-next
returns-in_err-next g c =
    let p = err_from_is_err_and c.from_residual.result c.from_residual.ensures.1 in
    let meaning = g.P.LookPort.meaning in
    let look = c.args.look.now in
    let asked = c.args.asked.now in
    let turns = c.args.turns.now in
    let i = c.loop-few.few-index in
    rw (p.1, p.2) (read_failed meaning look look.pin.blocks (turns_widen turns (λ few. few.now) (i + 1) look.pin.blocks) c.args.port.now c.take_few.new.port c.in_err-next.field-0.0
    (subst (λ (each : List (List Pick)). Taken meaning look c.args.own.now asked each c.args.best c.args.port.now (Err c.in_err-next.field-0.0) c.take_few.new.port) (sym (next_turn turns (λ few. few.now) i _ (omega arith)))
    (taken_next meaning look c.args.own.now asked c.takes_more.ensures.same c.takes_more.ensures.read c.args.port.now c.loop-few.port c.take_few.new.port (map (λ few. few.now) (take i turns)) _ c.args.best c.loop-few.best
    (Err c.in_err-next.field-0.0) (turn_apart turns (λ few. few.now) i _ (omega arith) c.requires.apart) c.loop-few.invariant c.in_err-next.ensures)))

pub returns : goal.returns
returns g c =
    let meaning = g.P.LookPort.meaning in
    let look = c.args.look.now in
    let turns = c.args.turns.now in
    read_widens meaning look look.pin.blocks
    (λ parts a b rose. subst (λ (l : List Pick). RoseAtMost (look_ups (traces_of l) look.pin.blocks parts) a b) (flat_mapped turns (λ few. few.now)) rose)
    c.args.port.now c.loop-few.port (Ok c.loop-few.best)
    (subst (λ l. Taken meaning look c.args.own.now c.args.asked.now (map (λ few. few.now) l) c.args.best c.args.port.now (Ok c.loop-few.best) c.loop-few.port) (take_all c.loop-few.few-index turns (omega arith))
    c.loop-few.invariant)

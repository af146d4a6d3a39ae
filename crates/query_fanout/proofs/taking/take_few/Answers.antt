use Rattle.std.proofs.Common.{◌≡◌, List, [], Vec, Global, eqb, true, vec_len, subst, sym, ◌∙◌}
use Rattle.std.proofs.lemmas.Bool.{eqb-true}
use Rattle.std.proofs.lemmas.List.{nil_from_length}
use Rattle.span_types.specs.declared.ids.TraceId.{TraceId}
use Rattle.query_fanout.specs.Reading.{AtMost, BlocksRead, look_ups}
use Rattle.query_fanout.specs.Searching.{AnswersTheirs, AnswersWith, TakesTheirs, TakesWith}
use Rattle.query_fanout.specs.Taking.{traces_of}
use Rattle.query_fanout.proofs.BlockLaws.{read_nothing, read_widens, rose_none}
use Rattle.query_fanout.proofs.FewLaws.{open_widens, opened_ascend}
use Rattle.query_fanout.proofs.TakeLaws.{IsKept, none_open}
use Rattle.query_fanout.proofs.taking.take_few.Goals as goal

pub returns-in-Err : goal.returns-in-Err
returns-in-Err g c =
    let look = c.args.look.now in
    let asked = c.args.asked.now in
    read_nothing g.P.LookPort.meaning look look.pin.blocks (TakesTheirs asked c.args.own.now c.args.few.now c.args.best) (TakesWith asked c.args.own.now c.args.few.now c.args.best)
    (AtMost (look_ups (traces_of c.args.few.now) look.pin.blocks)) c.args.port.now c.requires.open
    (λ parts. rose_none (look_ups (traces_of c.args.few.now) look.pin.blocks parts) (g.P.LookPort.meaning.reads c.args.port.now))

no_ids : (ids : Vec TraceId Global) → eqb (vec_len ids) 0 ≡ true → ids.items ≡ []
no_ids ids none = nil_from_length ids.items (sym ids.ok.0 ∙ eqb-true (vec_len ids) 0 none)

pub returns-then-is_empty : goal.returns-then-is_empty
returns-then-is_empty g c =
    none_open g.P.LookPort.meaning c.args.look.now c.args.own.now c.args.asked.now c.args.few.now c.args.best c.args.port.now c.requires.open
    (sym c.in-Ok.ensures ∙ no_ids c.in-Ok.ids (sym c.is_empty.ensures ∙ c.if-is_empty.true)) (subst IsKept c.best.view_is c.best.invariant)

pub answer_traces-requires-clause-in_order : goal.answer_traces-requires-clause-in_order
answer_traces-requires-clause-in_order g c κs within = opened_ascend c.args.best c.args.few.now c.as_slice.result.now (c.as_slice.ensures.value ∙ c.in-Ok.ensures) c.requires.ascend

pub returns : goal.returns
returns g c =
    let look = c.args.look.now in
    let asked = c.args.asked.now in
    read_widens g.P.LookPort.meaning look look.pin.blocks (open_widens c.args.best c.args.few.now look.pin.blocks) c.args.port.now c.answer_traces.new.port c.answer_traces.result
    (subst (λ (ids : List TraceId). BlocksRead g.P.LookPort.meaning look look.pin.blocks (AnswersTheirs asked c.args.own.now ids c.args.best) (AnswersWith asked c.args.own.now ids c.args.best)
    (AtMost (look_ups ids look.pin.blocks)) c.args.port.now c.answer_traces.result c.answer_traces.new.port) (c.as_slice.ensures.value ∙ c.in-Ok.ensures) c.answer_traces.ensures)

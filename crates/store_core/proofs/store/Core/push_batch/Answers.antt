use Rattle.std.proofs.Common.{◌++◌, ◌+◌, ℕ, List, length, Some, refl, sym, ◌∙◌, ap, subst}
use Rattle.span_types.specs.declared.spans.Span.{Span}
use Rattle.disk_model.specs.Images.{bytes_of}
use Rattle.head_log.specs.Bodies.{body_bytes}
use Rattle.head_log.specs.Stands.{IsBatchBody}
use Rattle.store_model.specs.History.{batch_rows}
use Rattle.store_model.specs.State.{LiveRow}
use Rattle.store_model.specs.After.{arrived}
use Rattle.store_model.specs.Event.Event.{Push}
use Rattle.store_model.specs.Event.Reply.{Refused}
use Rattle.store_model.specs.Event.Refusal.{Fault}
use Rattle.store_state.specs.Replies.{push_refusal}
use Rattle.store_core.specs.Events.{Did, end_of}
use Rattle.store_core.specs.declared.store.Core.{Core}
use Rattle.store_core.proofs.Counted.{made_as}
use Rattle.store_core.proofs.PushEvents.{did_refused, did_lacking, did_pushed, did_broken}
use Rattle.store_core.proofs.store.Core.push_batch.Goals as goal

pub returns-in-Err : goal.returns-in-Err
returns-in-Err g c = did_refused g.D.Device g.met.D.Device.only_now c.args.self.now c.args.batch.spans c.args.moment (push_refusal c.in-Err.error)
    (λ m has. c.in-Err.ensures.refused m c.args.moment has) c.in-Err.ensures.no_fault

pub returns-in_default : goal.returns-in_default
returns-in_default g c = did_lacking g.D.Device g.met.D.Device.only_now c.args.self.now c.args.self.now.state.live c.args.batch.spans c.args.moment
    (record { live = refl; head = refl; flushing = refl }) (λ m has. c.in-Ok.ensures.free m c.args.moment has)

pub returns-in_default-reserve : goal.returns-in_default-reserve
returns-in_default-reserve g c =
    let same = c.reserve.ensures.same in
    did_lacking g.D.Device g.met.D.Device.only_now c.args.self.now c.reserve.new.self c.args.batch.spans c.args.moment
    (record { live = same.0; head = same.1; flushing = same.2 }) (λ m has. c.in-Ok.ensures.free m c.args.moment has)

pub returns-in-Ok-append : goal.returns-in-Ok-append
returns-in-Ok-append g c =
    let d = g.D.Device in
    let core = c.args.self.now in
    let spans : List Span = c.args.batch.spans in
    let seg = core.state.segment in
    let sure = c.in-Ok.ensures.sure in
    let same = c.reserve.ensures.same in
    let ready = c.in-Ok-reserve.ensures.ready in
    let shown = c.in-Ok-append.ensures.shown in
    let known = bytes_of (d.held core.disk) seg.file in
    let body = subst (λ (n : ℕ). IsBatchBody n spans c.in-Ok-of.entry.body) (sym c.in-Ok-of.ensures.number) (c.in-Ok-of.ensures.body sure.1) in
    did_pushed d core c.append.new.disk spans c.args.moment (λ m has. c.in-Ok.ensures.free m c.args.moment has) sure.0 _ (made_as d core.disk c.append.new.disk _ (seg.gate + 10 + length c.in-Ok-of.entry.body) (end_of core.state (Push spans c.args.moment)) (ap (λ (b : List ℕ). seg.gate + 10 + length b) (c.in-Ok-of.ensures.spelled ∙ ap (λ (n : ℕ). body_bytes n spans) sure.2)) c.in-Ok-append.ensures.counted)
    (λ told. record {
      any_moment = λ batches only holds counted. c.append.ensures.any_moment batches spans known told only holds counted body;
      besides = c.append.ensures.besides told;
    })
    refl c.add.new.self c.append.new.seg c.in-Ok.number c.in-Ok.ensures.number sure.1 sure.2
    (c.add.ensures.added
    ∙ ap (λ (l : List LiveRow). l ++ arrived c.args.moment (batch_rows c.in-Ok-reserve.ready.number c.in-Ok-reserve.ready.spans)) same.0
    ∙ ap (λ (n : ℕ). core.state.live.live ++ arrived c.args.moment (batch_rows n c.in-Ok-reserve.ready.spans)) ready.0
    ∙ ap (λ (s : List Span). core.state.live.live ++ arrived c.args.moment (batch_rows c.in-Ok.number s)) ready.1)
    (c.add.ensures.same.0 ∙ same.1) (c.add.ensures.same.1 ∙ same.2)
    shown.0 shown.1 shown.2 (g.met.D.Device.held_may_stay core.disk)
    (λ told batches only holds counted. c.in-Ok-append.ensures.acknowledged batches spans known told only holds counted body)

pub returns : goal.returns
returns g c =
    let d = g.D.Device in
    let core = c.args.self.now in
    let spans : List Span = c.args.batch.spans in
    let seg = core.state.segment in
    let sure = c.in-Ok.ensures.sure in
    let same = c.reserve.ensures.same in
    let ready = c.in-Ok-reserve.ensures.ready in
    let known = bytes_of (d.held core.disk) seg.file in
    let body = subst (λ (n : ℕ). IsBatchBody n spans c.in-Ok-of.entry.body) (sym c.in-Ok-of.ensures.number) (c.in-Ok-of.ensures.body sure.1) in
    subst (λ (s : Core _). Did d core (Push spans c.args.moment) (Refused Fault) (record s { state = record s.state { unsure = Some c.in-Ok-reserve.ready } })) (sym c.stop_writing.ensures)
    (did_broken d core c.append.new.disk spans c.args.moment (λ m has. c.in-Ok.ensures.free m c.args.moment has) sure.0 _ (made_as d core.disk c.append.new.disk _ (seg.gate + 10 + length c.in-Ok-of.entry.body) (end_of core.state (Push spans c.args.moment)) (ap (λ (b : List ℕ). seg.gate + 10 + length b) (c.in-Ok-of.ensures.spelled ∙ ap (λ (n : ℕ). body_bytes n spans) sure.2)) c.in-Err-append.ensures.counted)
    (λ told. record {
      any_moment = λ batches only holds counted. c.append.ensures.any_moment batches spans known told only holds counted body;
      besides = c.append.ensures.besides told;
    })
    c.reserve.new.self c.append.new.seg c.in-Ok-reserve.ready (d.faults c.append.new.disk) refl
    (record { live = same.0; head = same.1; flushing = same.2 })
    c.in-Err-append.ensures.stays ready.1 refl)

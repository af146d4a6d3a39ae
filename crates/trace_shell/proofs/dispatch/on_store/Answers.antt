use Rattle.std.proofs.Common.{arith, IsTrue, false, true, List, Option, [], ap, refl, subst, sym, ◌∙◌, ℕ}
use Rattle.command_words.specs.Commands.{command_of}
use Rattle.session_meaning.specs.Asked.{after_moment}
use Rattle.session_meaning.specs.Runs.{Edges, edges}
use Rattle.session_meaning.specs.Stops.{FindsBytes, Recovers}
use Rattle.session_meaning.specs.At.{At}
use Rattle.store_core.specs.Opening.{StoreBreaks}
use Rattle.store_reopen.proofs.Through.{keeps_from_now}
use Rattle.store_reopen.specs.declared.store.Store.TheVariants.{Open}
use Rattle.store_images.specs.Stored.{IsSoundImage}
use Rattle.store_model.specs.History.{count_of}
use Rattle.session_meaning.proofs.CoreSessions.{StandsThrough}
use Rattle.session_meaning.proofs.FoundBytes.{all_fit, closed_for}
use Rattle.session_meaning.proofs.StoreSessions.{are_done, over_tells}
use Rattle.session_meaning.specs.Answering.{at_core}
use Rattle.session_meaning.specs.Place.{opened_at}
use Rattle.store_reopen.specs.Reopened.{disk_of}
use Rattle.traceql_types.proofs.Calls.{refuses-none}
use Rattle.trace_shell.specs.Turn.{CameOver}
use Rattle.trace_shell.proofs.RunLemmas.{cause_of, if_told, no_fault, unopened, unopened_done, unopened_recovers}
use Rattle.trace_shell.proofs.StoreLemmas.{came_kept, came_shown, done_over, holds_nothing, in_a_store, opened_done, opened_recovers}
use Rattle.trace_shell.proofs.dispatch.on_store.Goals as goal

pub do_asked-ending-requires-clause-holds : goal.do_asked-ending-requires-clause-holds
do_asked-ending-requires-clause-holds g c κs outlives =
    let begins = c.in-Ok.ensures.opened.begins in ([], holds_nothing g.D.Device c.in-Ok.core begins.0 begins.1.shows)

pub returns-in-Ok-clause-ran : goal.returns-in-Ok-clause-ran
returns-in-Ok-clause-ran g c =
    let d = g.D.Device in
    let disk = c.args.disk in
    let core = c.in-Ok.core in
    let store = c.do_asked-ending.result.1 in
    let e = c.do_asked-ending.result.0 in
    let moment = c.now-moment.result in
    let begins = c.in-Ok.ensures.opened.begins in
    let came = c.do_asked-ending.ensures.came in
    let old : Edges = edges g.S.Source.left g.S.Source.faults g.K.Sink.taken g.K.Sink.faults g.C.Clock.moments d c.args.source.now c.args.sink.now c.args.clock.now disk in
    let new : Edges = edges g.S.Source.left g.S.Source.faults g.K.Sink.taken g.K.Sink.faults g.C.Clock.moments d c.do_asked-ending.new.source c.do_asked-ending.new.sink c.do_asked-ending.new.clock c.into_disk.result in
    let come = subst (λ (o : Option (List ℕ)). CameOver (command_of c.args.asked) d core store old.left old.taken o new.left new.taken new.moments e came.0 came.1 came.2)
    c.now-moment.ensures.later came.4 in
    let over = done_over d (command_of c.args.asked) core store old.left old.taken (after_moment old.moments) new.left new.taken new.moments e came.0 came.1 came.2 come in
    let run = came_shown d core store begins.0 old.left old.taken (after_moment old.moments) new.left new.taken new.moments e came.0 came.1 came.2 (command_of c.args.asked) begins.1.shows come in (
      in_a_store d moment core begins.0 run.0 e came.0 came.1 came.2,
      refl,
      came.3,
      opened_done d disk moment core store begins.0 run.0 e came.0 came.1 came.2 begins.1 false (command_of c.args.asked) old new
          refl refl (ap (λ (at : At). at.faults) run.1.faults ∙ sym (ap d.faults c.into_disk.ensures)) c.now-moment.ensures.moment c.in-Ok.ensures.unbroken (c.in-Ok.ensures.calls.quiet tt) run.2
          run.3
          c.do_asked-ending.ensures.endings
          (cause_of e old new c.do_asked-ending.ensures.endings c.do_asked-ending.ensures.write_fault c.do_asked-ending.ensures.read_fault c.do_asked-ending.ensures.spent),
      subst (λ x. FindsBytes d disk x (in_a_store d moment core begins.0 run.0 e came.0 came.1 came.2)) (sym c.into_disk.ensures)
          (record {
            fit = λ told. all_fit d g.met.D.Device.held_may_stay g.met.D.Device.counts_now disk came.0 came.1 (Open core) store c.in-Ok.ensures.calls.time (subst IsTrue (sym c.in-Ok.ensures.calls.telling) told) over;
            closed = λ told. closed_for d came.0 came.1 (Open core) store (subst IsTrue (sym c.in-Ok.ensures.calls.telling) told) over;
          }),
    )

pub returns-in-Ok-clause-recovers : goal.returns-in-Ok-clause-recovers
returns-in-Ok-clause-recovers g c = λ told sound.
    let d = g.D.Device in
    let met = g.met.D.Device in
    let disk = c.args.disk in
    let core = c.in-Ok.core in
    let store = c.do_asked-ending.result.1 in
    let e = c.do_asked-ending.result.0 in
    let moment = c.now-moment.result in
    let begins = c.in-Ok.ensures.opened.founded (λ t. sound) in
    let came = c.do_asked-ending.ensures.came in
    let telling = c.in-Ok.ensures.calls.telling in
    let begun : StandsThrough d core.disk (count_of begins.0.history) [] core begins.0 =
    (begins.1.stands, subst IsTrue (sym telling) told, keeps_from_now d met.only_now core begins.0 begins.1.stands) in
    let old : Edges = edges g.S.Source.left g.S.Source.faults g.K.Sink.taken g.K.Sink.faults g.C.Clock.moments d c.args.source.now c.args.sink.now c.args.clock.now disk in
    let new : Edges = edges g.S.Source.left g.S.Source.faults g.K.Sink.taken g.K.Sink.faults g.C.Clock.moments d c.do_asked-ending.new.source c.do_asked-ending.new.sink c.do_asked-ending.new.clock c.into_disk.result in
    let come = subst (λ (o : Option (List ℕ)). CameOver (command_of c.args.asked) d core store old.left old.taken o new.left new.taken new.moments e came.0 came.1 came.2)
    c.now-moment.ensures.later came.4 in
    let over = done_over d (command_of c.args.asked) core store old.left old.taken (after_moment old.moments) new.left new.taken new.moments e came.0 came.1 came.2 come in
    let run = came_kept d core store begins.0 old.left old.taken (after_moment old.moments) new.left new.taken new.moments e came.0 came.1 came.2
    met.held_may_stay met.counts_now met.only_now core.disk (count_of begins.0.history) (d.moment disk) (c.in-Ok.ensures.kept told).since.later
    (command_of c.args.asked) begins.1.over.empty.writes begun come in
    let done = are_done (d.left_since (disk_of store) (d.moment disk)) came.0 came.1 (opened_at (at_core d core begins.0)) run.0 run.2 in
    let tells = over_tells d came.0 came.1 (Open core) store over begun.1 in (
      in_a_store d moment core begins.0 run.0 e came.0 came.1 came.2,
      refl,
      came.3,
      opened_done d disk moment core store begins.0 run.0 e came.0 came.1 came.2 begins.1.over true (command_of c.args.asked) old new
          refl refl (ap (λ (at : At). at.faults) run.1.faults ∙ sym (ap d.faults c.into_disk.ensures)) c.now-moment.ensures.moment c.in-Ok.ensures.unbroken (c.in-Ok.ensures.calls.quiet tt) done
          run.3
          c.do_asked-ending.ensures.endings
          (cause_of e old new c.do_asked-ending.ensures.endings c.do_asked-ending.ensures.write_fault c.do_asked-ending.ensures.read_fault c.do_asked-ending.ensures.spent),
      subst (λ x. Recovers d disk x (in_a_store d moment core begins.0 run.0 e came.0 came.1 came.2)) (sym c.into_disk.ensures)
          (opened_recovers d disk moment core store begins.0 run.0 e came.0 came.1 came.2 begins.1.over met.held_may_stay met.counts_now met.only_now told begins.1
          c.in-Ok.ensures.kept telling begun over run.1 tells run.2),
    )

pub returns-in-Err-clause-ran : goal.returns-in-Err-clause-ran
returns-in-Err-clause-ran g c =
    let d = g.D.Device in
    let old : Edges = edges g.S.Source.left g.S.Source.faults g.K.Sink.taken g.K.Sink.faults g.C.Clock.moments d c.args.source.now c.args.sink.now c.args.clock.now c.args.disk in
    let new : Edges = edges g.S.Source.left g.S.Source.faults g.K.Sink.taken g.K.Sink.faults g.C.Clock.moments d c.args.source.now c.refuse_store.new.sink c.now-moment.new.self c.in-Err.disk in (
      unopened c.refuse_store.result,
      refl,
      refuses-none g.P.PatternMaker.makes _ c.args.patterns.now c.args.patterns.now,
      unopened_done false (command_of c.args.asked) c.in-Err.error c.refuse_store.result old new refl c.now-moment.ensures.later c.refuse_store.ensures.told c.refuse_store.ensures.write_fault
          c.in-Err.ensures.calls_refused.fault c.in-Err.ensures.calls_refused.quiet (c.in-Err.ensures.calls_refused.near (omega arith))
          (λ file at is. if_told d c.args.disk (λ image. StoreBreaks image file at × (IsSoundImage image → ⊥))
          (λ told. (c.in-Err.ensures.not_store told file at is, λ sound. c.in-Err.ensures.sound told sound file at is))),
      record { fit = λ told. tt; closed = λ told. tt },
    )

pub returns-in-Err-clause-recovers : goal.returns-in-Err-clause-recovers
returns-in-Err-clause-recovers g c = λ told sound.
    let d = g.D.Device in
    let old : Edges = edges g.S.Source.left g.S.Source.faults g.K.Sink.taken g.K.Sink.faults g.C.Clock.moments d c.args.source.now c.args.sink.now c.args.clock.now c.args.disk in
    let new : Edges = edges g.S.Source.left g.S.Source.faults g.K.Sink.taken g.K.Sink.faults g.C.Clock.moments d c.args.source.now c.refuse_store.new.sink c.now-moment.new.self c.in-Err.disk in (
      unopened c.refuse_store.result,
      refl,
      refuses-none g.P.PatternMaker.makes _ c.args.patterns.now c.args.patterns.now,
      unopened_done true (command_of c.args.asked) c.in-Err.error c.refuse_store.result old new refl c.now-moment.ensures.later c.refuse_store.ensures.told c.refuse_store.ensures.write_fault
          c.in-Err.ensures.calls_refused.fault c.in-Err.ensures.calls_refused.quiet (c.in-Err.ensures.calls_refused.near (omega arith))
          (λ file at is. if_told d c.args.disk (λ image. StoreBreaks image file at × (IsSoundImage image → ⊥))
          (λ told. (c.in-Err.ensures.not_store told file at is, λ sound. c.in-Err.ensures.sound told sound file at is))),
      unopened_recovers d c.args.disk c.in-Err.disk c.refuse_store.result
          (λ other. c.in-Err.ensures.left told (no_fault c.in-Err.error c.refuse_store.result (g.K.Sink.taken c.args.sink.now) (g.K.Sink.taken c.refuse_store.new.sink) c.refuse_store.ensures.told other))
          (λ image left. (c.in-Err.ensures.kept_refused told).since.each image left),
    )

pub returns-in-Ok-clause-left : goal.returns-in-Ok-clause-left
returns-in-Ok-clause-left g c = λ told file at breaks other. absurd (c.in-Ok.ensures.unbroken told file at breaks)

pub returns-in-Err-clause-left : goal.returns-in-Err-clause-left
returns-in-Err-clause-left g c = λ told file at breaks other.
    c.in-Err.ensures.left told (no_fault c.in-Err.error c.refuse_store.result (g.K.Sink.taken c.args.sink.now) (g.K.Sink.taken c.refuse_store.new.sink) c.refuse_store.ensures.told other)

pub returns-in-Ok-clause-unread : goal.returns-in-Ok-clause-unread
returns-in-Ok-clause-unread g c = λ early. absurd (early c.do_asked-ending.ensures.endings)

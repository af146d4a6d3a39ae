use Rattle.std.proofs.Common.{arith, IsTrue, false, true, List, [], Option, ap, inl, inr, refl, subst, sym, ℕ}
use Rattle.command_words.specs.Commands.{Serve}
use Rattle.session_meaning.specs.Runs.{Edges, edges}
use Rattle.session_meaning.specs.ServedRuns.{RecoversServed}
use Rattle.store_core.specs.Opening.{StoreBreaks}
use Rattle.store_reopen.proofs.Through.{keeps_from_now}
use Rattle.store_images.specs.Stored.{IsSoundImage}
use Rattle.store_model.specs.History.{count_of}
use Rattle.session_meaning.proofs.CoreSessions.{StandsThrough}
use Rattle.traceql_types.proofs.Calls.{refuses-none}
use Rattle.trace_shell.specs.Serving.{CameServing}
use Rattle.trace_shell.proofs.RunLemmas.{if_told, no_fault, unopened, unopened_done, unopened_recovers}
use Rattle.trace_shell.proofs.ServedLemmas.{is_served, ran_shown, ran_through, served, serving_cause, serving_past, serving_recovers}
use Rattle.trace_shell.proofs.StoreLemmas.{holds_nothing}
use Rattle.trace_shell.proofs.serving.serve_on_store.Goals as goal

pub serve-ending-requires-clause-holds : goal.serve-ending-requires-clause-holds
serve-ending-requires-clause-holds g c κs within =
    let begins = c.in-Ok.ensures.opened.begins in holds_nothing g.D.Device c.in-Ok.core begins.0 begins.1.shows

pub returns-in-Ok-clause-ran : goal.returns-in-Ok-clause-ran
returns-in-Ok-clause-ran g c =
    let d = g.D.Device in
    let disk = c.args.disk in
    let core = c.in-Ok.core in
    let later = c.serve-ending.result.1 in
    let e = c.serve-ending.result.0 in
    let moment = c.now-moment.result in
    let begins = c.in-Ok.ensures.opened.begins in
    let came = c.serve-ending.ensures.came in
    let old : Edges = edges g.S.Source.left g.S.Source.faults g.K.Sink.taken g.K.Sink.faults g.C.Clock.moments d c.args.source.now c.args.sink.now c.args.clock.now disk in
    let new : Edges = edges g.S.Source.left g.S.Source.faults g.K.Sink.taken g.K.Sink.faults g.C.Clock.moments d c.serve-ending.new.source c.serve-ending.new.sink c.serve-ending.new.clock c.close.result in
    let come = subst (λ (o : Option (List ℕ)). CameServing d c.args.clients c.args.rounds core later old.left new.left old.taken new.taken o new.moments e came.0)
    c.now-moment.ensures.later came.2 in
    let run = ran_shown d core later begins.0 come.entries come.scripts come.answers come.served begins.1.shows in
    inr (
      served d moment core begins.0 later run.0 e come.scripts come.answers come.entries came.0,
      refl,
      came.1,
      is_served d disk moment c.args.clients c.args.rounds core later begins.0 e came.0 begins.1 false old new come run.0 run.2
          refl refl (sym (ap d.faults c.close.ensures)) c.now-moment.ensures.moment c.in-Ok.ensures.unbroken (c.in-Ok.ensures.calls.quiet tt)
          (serving_cause e come.answers old new come.ends c.serve-ending.ensures.write_fault c.serve-ending.ensures.read_fault c.serve-ending.ensures.spent),
      λ told. come.served.whole (subst IsTrue (sym c.in-Ok.ensures.calls.telling) told),
    )

pub returns-in-Ok-clause-recovers : goal.returns-in-Ok-clause-recovers
returns-in-Ok-clause-recovers g c = λ told sound.
    let d = g.D.Device in
    let met = g.met.D.Device g.world.𝓛 g.world.𝓜 g.world.𝓡 ((λ s x. x), (λ x. x), (λ x. x), λ x. x) in
    let disk = c.args.disk in
    let core = c.in-Ok.core in
    let later = c.serve-ending.result.1 in
    let e = c.serve-ending.result.0 in
    let moment = c.now-moment.result in
    let begins = c.in-Ok.ensures.opened.founded (λ t. sound) in
    let came = c.serve-ending.ensures.came in
    let begun : StandsThrough d core.disk (count_of begins.0.history) [] core begins.0 =
    (begins.1.stands, subst IsTrue (sym c.in-Ok.ensures.calls.telling) told, keeps_from_now d met.only_now core begins.0 begins.1.stands) in
    let old : Edges = edges g.S.Source.left g.S.Source.faults g.K.Sink.taken g.K.Sink.faults g.C.Clock.moments d c.args.source.now c.args.sink.now c.args.clock.now disk in
    let new : Edges = edges g.S.Source.left g.S.Source.faults g.K.Sink.taken g.K.Sink.faults g.C.Clock.moments d c.serve-ending.new.source c.serve-ending.new.sink c.serve-ending.new.clock c.close.result in
    let come = subst (λ (o : Option (List ℕ)). CameServing d c.args.clients c.args.rounds core later old.left new.left old.taken new.taken o new.moments e came.0)
    c.now-moment.ensures.later came.2 in
    let run = ran_through d core later begins.0 come.entries come.scripts come.answers come.served core.disk (count_of begins.0.history) begun in
    inr (
      served d moment core begins.0 later run.0 e come.scripts come.answers come.entries came.0,
      refl,
      came.1,
      is_served d disk moment c.args.clients c.args.rounds core later begins.0 e came.0 begins.1.over true old new come run.0 run.2
          refl refl (sym (ap d.faults c.close.ensures)) c.now-moment.ensures.moment c.in-Ok.ensures.unbroken (c.in-Ok.ensures.calls.quiet tt)
          (serving_cause e come.answers old new come.ends c.serve-ending.ensures.write_fault c.serve-ending.ensures.read_fault c.serve-ending.ensures.spent),
      subst (λ x. RecoversServed d disk x (served d moment core begins.0 later run.0 e come.scripts come.answers come.entries came.0)) (sym c.close.ensures)
          (serving_recovers d disk moment c.args.clients c.args.rounds core later begins.0 e came.0 begins.1.over met.counts_now met.only_now told begins.1
          c.in-Ok.ensures.kept begun come.scripts come.answers come.entries come.served run.0 run.1),
    )

pub returns-in-Ok-clause-left : goal.returns-in-Ok-clause-left
returns-in-Ok-clause-left g c = λ told file at breaks other. absurd (c.in-Ok.ensures.unbroken told file at breaks)

pub returns-in-Ok-clause-unread : goal.returns-in-Ok-clause-unread
returns-in-Ok-clause-unread g c = λ early.
    let came = c.serve-ending.ensures.came.2 in absurd (early (serving_past c.serve-ending.result.0 came.answers _ _ came.ends))

pub returns-in-Err-clause-ran : goal.returns-in-Err-clause-ran
returns-in-Err-clause-ran g c =
    let d = g.D.Device in
    let old : Edges = edges g.S.Source.left g.S.Source.faults g.K.Sink.taken g.K.Sink.faults g.C.Clock.moments d c.args.source.now c.args.sink.now c.args.clock.now c.args.disk in
    let new : Edges = edges g.S.Source.left g.S.Source.faults g.K.Sink.taken g.K.Sink.faults g.C.Clock.moments d c.args.source.now c.refuse_store.new.sink c.now-moment.new.self c.in-Err.disk in
    inl (
      unopened c.refuse_store.result,
      refl,
      refuses-none g.P.PatternMaker.makes _ c.args.patterns.now c.args.patterns.now,
      unopened_done false (Serve c.args.clients c.args.rounds) c.in-Err.error c.refuse_store.result old new refl c.now-moment.ensures.later c.refuse_store.ensures.told c.refuse_store.ensures.write_fault
          c.in-Err.ensures.calls_refused.fault c.in-Err.ensures.calls_refused.quiet (c.in-Err.ensures.calls_refused.near (omega arith))
          (λ file at is. if_told d c.args.disk (λ image. StoreBreaks image file at × (IsSoundImage image → ⊥))
          (λ told. (c.in-Err.ensures.not_store told file at is, λ sound. c.in-Err.ensures.sound told sound file at is))),
      record { fit = λ told. tt; closed = λ told. tt },
    )

pub returns-in-Err-clause-recovers : goal.returns-in-Err-clause-recovers
returns-in-Err-clause-recovers g c = λ told sound.
    let d = g.D.Device in
    let old : Edges = edges g.S.Source.left g.S.Source.faults g.K.Sink.taken g.K.Sink.faults g.C.Clock.moments d c.args.source.now c.args.sink.now c.args.clock.now c.args.disk in
    let new : Edges = edges g.S.Source.left g.S.Source.faults g.K.Sink.taken g.K.Sink.faults g.C.Clock.moments d c.args.source.now c.refuse_store.new.sink c.now-moment.new.self c.in-Err.disk in
    inl (
      unopened c.refuse_store.result,
      refl,
      refuses-none g.P.PatternMaker.makes _ c.args.patterns.now c.args.patterns.now,
      unopened_done true (Serve c.args.clients c.args.rounds) c.in-Err.error c.refuse_store.result old new refl c.now-moment.ensures.later c.refuse_store.ensures.told c.refuse_store.ensures.write_fault
          c.in-Err.ensures.calls_refused.fault c.in-Err.ensures.calls_refused.quiet (c.in-Err.ensures.calls_refused.near (omega arith))
          (λ file at is. if_told d c.args.disk (λ image. StoreBreaks image file at × (IsSoundImage image → ⊥))
          (λ told. (c.in-Err.ensures.not_store told file at is, λ sound. c.in-Err.ensures.sound told sound file at is))),
      unopened_recovers d c.args.disk c.in-Err.disk c.refuse_store.result
          (λ other. c.in-Err.ensures.left told (no_fault c.in-Err.error c.refuse_store.result (g.K.Sink.taken c.args.sink.now) (g.K.Sink.taken c.refuse_store.new.sink) c.refuse_store.ensures.told other))
          (λ image left. (c.in-Err.ensures.kept_refused told).since.each image left),
    )

pub returns-in-Err-clause-left : goal.returns-in-Err-clause-left
returns-in-Err-clause-left g c = λ told file at breaks other.
    c.in-Err.ensures.left told (no_fault c.in-Err.error c.refuse_store.result (g.K.Sink.taken c.args.sink.now) (g.K.Sink.taken c.refuse_store.new.sink) c.refuse_store.ensures.told other)

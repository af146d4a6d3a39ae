use Rattle.std.proofs.Common.{⊎_elim, true, false, Err, ap, inl, inr, map, refl, string_bytes, subst, ◌∙◌}
use Rattle.command_words.specs.Commands.{Serve, Spells, command_of}
use Rattle.command_words.specs.declared.asked.Asked.{Asked}
use Rattle.command_words.proofs.Spelled.{begins_serves, spelled_clean}
use Rattle.session_meaning.specs.declared.ending.Ending.TheVariants.{BadWords, Starved}
use Rattle.session_meaning.specs.Runs.{Edges, edges}
use Rattle.traceql_types.proofs.Calls.{refuses-none}
use Rattle.trace_shell.proofs.RunLemmas.{is_run, left_same, refused_runs, starved_runs, unopened, untouched_recovers}
use Rattle.trace_shell.proofs.ServingLemmas.{few_clients, is_to_serve}
use Rattle.trace_shell.proofs.serving.serve_words.Goals as goal

pub unreachable-requires : goal.unreachable-requires
unreachable-requires g c =
    let words = map string_bytes c.args.words.now in
    let serves = is_to_serve c.in-Ok.asked (begins_serves words (command_of c.in-Ok.asked) c.requires c.in-Ok.ensures.asked) in
    c.in_default.not-Serve serves.0 serves.1 serves.2

pub serve_on_store-requires-clause-one : goal.serve_on_store-requires-clause-one
serve_on_store-requires-clause-one g c κs within =
    let asks = subst (λ (a : Asked). Spells (map string_bytes c.args.words.now) (command_of a)) c.in-Serve.is c.in-Ok.ensures.asked in
    (few_clients (map string_bytes c.args.words.now) c.in-Serve.clients c.in-Serve.rounds asks).0

pub serve_on_store-requires-clause-few : goal.serve_on_store-requires-clause-few
serve_on_store-requires-clause-few g c κs within =
    let asks = subst (λ (a : Asked). Spells (map string_bytes c.args.words.now) (command_of a)) c.in-Serve.is c.in-Ok.ensures.asked in
    (few_clients (map string_bytes c.args.words.now) c.in-Serve.clients c.in-Serve.rounds asks).1

pub returns-clause-ran : goal.returns-clause-ran
returns-clause-ran g c =
    let words = map string_bytes c.args.words.now in
    let asks : Spells words (Serve c.in-Serve.clients c.in-Serve.rounds) = subst (λ (a : Asked). Spells words (command_of a)) c.in-Serve.is c.in-Ok.ensures.asked in
    let d = g.D.Device in
    let old : Edges = edges g.S.Source.left g.S.Source.faults g.K.Sink.taken g.K.Sink.faults g.C.Clock.moments d c.args.source.now c.args.sink.now c.args.clock.now c.args.disk in
    let new : Edges = edges g.S.Source.left g.S.Source.faults g.K.Sink.taken g.K.Sink.faults g.C.Clock.moments d c.serve_on_store.new.source c.serve_on_store.new.sink c.serve_on_store.new.clock c.serve_on_store.result.1 in
    ⊎_elim (λ o. inl (o.0, o.1, o.2, is_run false words (Serve c.in-Serve.clients c.in-Serve.rounds) o.0 old new asks o.3, o.4))
    (λ s. inr (s.0, s.1, s.2, (c.in-Serve.clients, c.in-Serve.rounds, asks, s.3), s.4))
    c.serve_on_store.ensures.ran

pub returns-clause-recovers : goal.returns-clause-recovers
returns-clause-recovers g c = λ told sound.
    let words = map string_bytes c.args.words.now in
    let asks : Spells words (Serve c.in-Serve.clients c.in-Serve.rounds) = subst (λ (a : Asked). Spells words (command_of a)) c.in-Serve.is c.in-Ok.ensures.asked in
    let d = g.D.Device in
    let old : Edges = edges g.S.Source.left g.S.Source.faults g.K.Sink.taken g.K.Sink.faults g.C.Clock.moments d c.args.source.now c.args.sink.now c.args.clock.now c.args.disk in
    let new : Edges = edges g.S.Source.left g.S.Source.faults g.K.Sink.taken g.K.Sink.faults g.C.Clock.moments d c.serve_on_store.new.source c.serve_on_store.new.sink c.serve_on_store.new.clock c.serve_on_store.result.1 in
    ⊎_elim (λ o. inl (o.0, o.1, o.2, is_run true words (Serve c.in-Serve.clients c.in-Serve.rounds) o.0 old new asks o.3, o.4))
    (λ s. inr (s.0, s.1, s.2, (c.in-Serve.clients, c.in-Serve.rounds, asks, s.3), s.4))
    (c.serve_on_store.ensures.recovers told sound)

pub returns-clause-nothing_done : goal.returns-clause-nothing_done
returns-clause-nothing_done g c = λ faulty.
    let words = map string_bytes c.args.words.now in
    absurd (faulty (spelled_clean words (command_of c.in-Ok.asked) c.in-Ok.ensures.asked))

pub returns-in-Err-Refused-clause-ran : goal.returns-in-Err-Refused-clause-ran
returns-in-Err-Refused-clause-ran g c =
    inl (
      unopened BadWords,
      refl,
      refuses-none g.P.PatternMaker.makes _ c.args.patterns.now c.args.patterns.now,
      refused_runs false (map string_bytes c.args.words.now) (edges g.S.Source.left g.S.Source.faults g.K.Sink.taken g.K.Sink.faults g.C.Clock.moments g.D.Device c.args.source.now c.args.sink.now c.args.clock.now c.args.disk)
          (c.read_words.ensures.refused (c.in-Err-Refused.is ∙ ap Err c.in-Err-Refused.field-0-is)),
      record { fit = λ told. tt; closed = λ told. tt },
    )

pub returns-in-Err-Refused-clause-recovers : goal.returns-in-Err-Refused-clause-recovers
returns-in-Err-Refused-clause-recovers g c = λ told sound.
    inl (
      unopened BadWords,
      refl,
      refuses-none g.P.PatternMaker.makes _ c.args.patterns.now c.args.patterns.now,
      refused_runs true (map string_bytes c.args.words.now) (edges g.S.Source.left g.S.Source.faults g.K.Sink.taken g.K.Sink.faults g.C.Clock.moments g.D.Device c.args.source.now c.args.sink.now c.args.clock.now c.args.disk)
          (c.read_words.ensures.refused (c.in-Err-Refused.is ∙ ap Err c.in-Err-Refused.field-0-is)),
      untouched_recovers g.D.Device (g.met.D.Device g.world.𝓛 g.world.𝓜 g.world.𝓡 ((λ s x. x), (λ x. x), (λ x. x), λ x. x)).only_now c.args.disk BadWords,
    )

pub returns-in-Err-Memory-clause-ran : goal.returns-in-Err-Memory-clause-ran
returns-in-Err-Memory-clause-ran g c =
    inl (
      unopened Starved,
      refl,
      refuses-none g.P.PatternMaker.makes _ c.args.patterns.now c.args.patterns.now,
      starved_runs false (map string_bytes c.args.words.now) (edges g.S.Source.left g.S.Source.faults g.K.Sink.taken g.K.Sink.faults g.C.Clock.moments g.D.Device c.args.source.now c.args.sink.now c.args.clock.now c.args.disk),
      record { fit = λ told. tt; closed = λ told. tt },
    )

pub returns-in-Err-Memory-clause-recovers : goal.returns-in-Err-Memory-clause-recovers
returns-in-Err-Memory-clause-recovers g c = λ told sound.
    inl (
      unopened Starved,
      refl,
      refuses-none g.P.PatternMaker.makes _ c.args.patterns.now c.args.patterns.now,
      starved_runs true (map string_bytes c.args.words.now) (edges g.S.Source.left g.S.Source.faults g.K.Sink.taken g.K.Sink.faults g.C.Clock.moments g.D.Device c.args.source.now c.args.sink.now c.args.clock.now c.args.disk),
      untouched_recovers g.D.Device (g.met.D.Device g.world.𝓛 g.world.𝓜 g.world.𝓡 ((λ s x. x), (λ x. x), (λ x. x), λ x. x)).only_now c.args.disk Starved,
    )

pub returns-in-Err-Refused-clause-left : goal.returns-in-Err-Refused-clause-left
returns-in-Err-Refused-clause-left g c = λ told file at breaks other. left_same g.D.Device (g.met.D.Device g.world.𝓛 g.world.𝓜 g.world.𝓡 ((λ s x. x), (λ x. x), (λ x. x), λ x. x)).only_now c.args.disk

pub returns-in-Err-Memory-clause-left : goal.returns-in-Err-Memory-clause-left
returns-in-Err-Memory-clause-left g c = λ told file at breaks other. left_same g.D.Device (g.met.D.Device g.world.𝓛 g.world.𝓜 g.world.𝓡 ((λ s x. x), (λ x. x), (λ x. x), λ x. x)).only_now c.args.disk

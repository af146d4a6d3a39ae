use Rattle.std.proofs.Common.{false, true, Err, ap, map, refl, string_bytes, subst, ◌∙◌}
use Rattle.command_words.specs.Commands.{Spells, command_of}
use Rattle.command_words.proofs.Spelled.{spelled_clean, spelled_one}
use Rattle.session_meaning.specs.declared.ending.Ending.TheVariants.{BadWords, Starved}
use Rattle.session_meaning.specs.Runs.{Edges, TakesNothing, edges}
use Rattle.traceql_types.proofs.Calls.{refuses-none}
use Rattle.trace_shell.proofs.RunLemmas.{is_run, left_same, refused_runs, starved_runs, unopened, untouched_recovers}
use Rattle.trace_shell.proofs.ServingLemmas.{for_one}
use Rattle.trace_shell.proofs.dispatch.dispatch.Goals as goal

pub on_store-requires-after_bounds : goal.on_store-requires-after_bounds
on_store-requires-after_bounds g c = λ κs outlives. for_one (map string_bytes c.args.words.now) (command_of c.in-Ok.asked) c.in-Ok.ensures.asked c.requires

pub returns-in-Ok-clause-ran : goal.returns-in-Ok-clause-ran
returns-in-Ok-clause-ran g c =
    let words = map string_bytes c.args.words.now in
    let asks : Spells words (command_of c.in-Ok.asked) = c.in-Ok.ensures.asked in
    let d = g.D.Device in
    let old : Edges = edges g.S.Source.left g.S.Source.faults g.K.Sink.taken g.K.Sink.faults g.C.Clock.moments d c.args.source.now c.args.sink.now c.args.clock.now c.args.disk in
    let new : Edges = edges g.S.Source.left g.S.Source.faults g.K.Sink.taken g.K.Sink.faults g.C.Clock.moments d c.on_store.new.source c.on_store.new.sink c.on_store.new.clock c.on_store.result.1 in
    let ran = c.on_store.ensures.ran in
    (ran.0, ran.1, ran.2, is_run false words (command_of c.in-Ok.asked) ran.0 old new asks ran.3, ran.4)

pub returns-in-Ok-clause-recovers : goal.returns-in-Ok-clause-recovers
returns-in-Ok-clause-recovers g c = λ told sound.
    let words = map string_bytes c.args.words.now in
    let asks : Spells words (command_of c.in-Ok.asked) = c.in-Ok.ensures.asked in
    let d = g.D.Device in
    let old : Edges = edges g.S.Source.left g.S.Source.faults g.K.Sink.taken g.K.Sink.faults g.C.Clock.moments d c.args.source.now c.args.sink.now c.args.clock.now c.args.disk in
    let new : Edges = edges g.S.Source.left g.S.Source.faults g.K.Sink.taken g.K.Sink.faults g.C.Clock.moments d c.on_store.new.source c.on_store.new.sink c.on_store.new.clock c.on_store.result.1 in
    let ran = c.on_store.ensures.recovers told sound in
    (ran.0, ran.1, ran.2, is_run true words (command_of c.in-Ok.asked) ran.0 old new asks ran.3, ran.4)

pub returns-in-Ok-clause-nothing_done : goal.returns-in-Ok-clause-nothing_done
returns-in-Ok-clause-nothing_done g c = λ faulty.
    let words = map string_bytes c.args.words.now in
    absurd (faulty (spelled_clean words (command_of c.in-Ok.asked) c.in-Ok.ensures.asked))

pub returns-in-Ok-clause-alone : goal.returns-in-Ok-clause-alone
returns-in-Ok-clause-alone g c = λ asks takes spells.
    let words = map string_bytes c.args.words.now in
    c.on_store.ensures.alone (subst TakesNothing (spelled_one words asks (command_of c.in-Ok.asked) spells c.in-Ok.ensures.asked) takes)

pub returns-in-Err-Refused-clause-ran : goal.returns-in-Err-Refused-clause-ran
returns-in-Err-Refused-clause-ran g c = (
  unopened BadWords,
  refl,
  refuses-none g.P.PatternMaker.makes _ c.args.patterns.now c.args.patterns.now,
  refused_runs false (map string_bytes c.args.words.now) (edges g.S.Source.left g.S.Source.faults g.K.Sink.taken g.K.Sink.faults g.C.Clock.moments g.D.Device c.args.source.now c.args.sink.now c.args.clock.now c.args.disk)
      (c.read_words.ensures.refused (c.in-Err-Refused.is ∙ ap Err c.in-Err-Refused.field-0-is)),
  record { fit = λ told. tt; closed = λ told. tt },
)

pub returns-in-Err-Refused-clause-recovers : goal.returns-in-Err-Refused-clause-recovers
returns-in-Err-Refused-clause-recovers g c = λ told sound. (
  unopened BadWords,
  refl,
  refuses-none g.P.PatternMaker.makes _ c.args.patterns.now c.args.patterns.now,
  refused_runs true (map string_bytes c.args.words.now) (edges g.S.Source.left g.S.Source.faults g.K.Sink.taken g.K.Sink.faults g.C.Clock.moments g.D.Device c.args.source.now c.args.sink.now c.args.clock.now c.args.disk)
      (c.read_words.ensures.refused (c.in-Err-Refused.is ∙ ap Err c.in-Err-Refused.field-0-is)),
  untouched_recovers g.D.Device g.met.D.Device.only_now c.args.disk BadWords,
)

pub returns-in-Err-Memory-clause-ran : goal.returns-in-Err-Memory-clause-ran
returns-in-Err-Memory-clause-ran g c = (
  unopened Starved,
  refl,
  refuses-none g.P.PatternMaker.makes _ c.args.patterns.now c.args.patterns.now,
  starved_runs false (map string_bytes c.args.words.now) (edges g.S.Source.left g.S.Source.faults g.K.Sink.taken g.K.Sink.faults g.C.Clock.moments g.D.Device c.args.source.now c.args.sink.now c.args.clock.now c.args.disk),
  record { fit = λ told. tt; closed = λ told. tt },
)

pub returns-in-Err-Memory-clause-recovers : goal.returns-in-Err-Memory-clause-recovers
returns-in-Err-Memory-clause-recovers g c = λ told sound. (
  unopened Starved,
  refl,
  refuses-none g.P.PatternMaker.makes _ c.args.patterns.now c.args.patterns.now,
  starved_runs true (map string_bytes c.args.words.now) (edges g.S.Source.left g.S.Source.faults g.K.Sink.taken g.K.Sink.faults g.C.Clock.moments g.D.Device c.args.source.now c.args.sink.now c.args.clock.now c.args.disk),
  untouched_recovers g.D.Device g.met.D.Device.only_now c.args.disk Starved,
)

pub returns-in-Err-Refused-clause-left : goal.returns-in-Err-Refused-clause-left
returns-in-Err-Refused-clause-left g c = λ told file at breaks other. left_same g.D.Device g.met.D.Device.only_now c.args.disk

pub returns-in-Err-Memory-clause-left : goal.returns-in-Err-Memory-clause-left
returns-in-Err-Memory-clause-left g c = λ told file at breaks other. left_same g.D.Device g.met.D.Device.only_now c.args.disk

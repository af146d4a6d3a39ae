use Rattle.std.proofs.Common.{◌≡◌, [], ◌∷◌, List, map, refl, string_bytes, subst, sym, ◌∙◌, ℕ}
use Rattle.command_words.specs.Commands.{command_of}
use Rattle.session_meaning.specs.Act.Act.{Ask}
use Rattle.session_meaning.specs.Asked.{AsksNext}
use Rattle.session_meaning.specs.Runs.{IsForOne, TakesNothing}
use Rattle.store_core.specs.Port.{port_of}
use Rattle.store_reopen.specs.declared.store.Store.TheVariants.{Open}
use Rattle.traceql_types.proofs.Calls.{refuses-none}
use Rattle.trace_shell.specs.Turn.{CameOver}
use Rattle.trace_shell.proofs.AloneLemmas.{alone_ends}
use Rattle.session_meaning.proofs.SessionLaws.{over_one}
use Rattle.trace_shell.proofs.dispatch.do_asked.Goals as goal

pub unreachable-requires : goal.unreachable-requires
unreachable-requires g c = subst (λ a. IsForOne (command_of a)) c.in-Serve.is c.requires.one

pub returns-in-Session-clause-came : goal.returns-in-Session-clause-came
returns-in-Session-clause-came g c =
    let ran = c.session.ensures.ran in (
      ran.0,
      ran.1,
      ran.2,
      ran.3,
      subst (λ a. CameOver (command_of a) g.D.Device c.args.core c.session.result.1 (g.S.Source.left c.args.source.now) (g.K.Sink.taken c.args.sink.now) (g.C.Clock.moments c.args.clock.now)
          (g.S.Source.left c.session.new.source) (g.K.Sink.taken c.session.new.sink) (g.C.Clock.moments c.session.new.clock) c.session.result.0 ran.0 ran.1 ran.2) (sym c.in-Session.is) (ran.4, ran.5),
    )

pub returns-in-Session-clause-alone : goal.returns-in-Session-clause-alone
returns-in-Session-clause-alone g c = λ takes. absurd (subst (λ a. TakesNothing (command_of a)) c.in-Session.is takes)

pub returns-in-Ingest-clause-came : goal.returns-in-Ingest-clause-came
returns-in-Ingest-clause-came g c =
    let ran = c.ingest-ending.ensures.ran in (
      map Ask ran.0,
      ran.1,
      [],
      refuses-none g.P.PatternMaker.makes _ c.args.patterns.now c.args.patterns.now,
      subst (λ a. CameOver (command_of a) g.D.Device c.args.core (Open c.ingest-ending.new.core) (g.S.Source.left c.args.source.now) (g.K.Sink.taken c.args.sink.now) (g.C.Clock.moments c.args.clock.now)
          (g.S.Source.left c.ingest-ending.new.source) (g.K.Sink.taken c.ingest-ending.new.sink) (g.C.Clock.moments c.ingest-ending.new.clock) c.ingest-ending.result (map Ask ran.0) ran.1 [])
          (sym c.in-Ingest.is) (c.ingest-ending.new.core, refl, ran.0, refl, ran.2, refl, ran.3),
    )

pub returns-in-Ingest-clause-alone : goal.returns-in-Ingest-clause-alone
returns-in-Ingest-clause-alone g c = λ takes. absurd (subst (λ a. TakesNothing (command_of a)) c.in-Ingest.is takes)

pub returns-in-Drill-clause-came : goal.returns-in-Drill-clause-came
returns-in-Drill-clause-came g c =
    let ran = c.drill-ending.ensures.ran in (
      map Ask ran.0,
      ran.1,
      ran.2,
      ran.3,
      subst (λ a. CameOver (command_of a) g.D.Device c.args.core (Open c.drill-ending.new.core) (g.S.Source.left c.args.source.now) (g.K.Sink.taken c.args.sink.now) (g.C.Clock.moments c.args.clock.now)
          (g.S.Source.left c.args.source.now) (g.K.Sink.taken c.drill-ending.new.sink) (g.C.Clock.moments c.drill-ending.new.clock) c.drill-ending.result (map Ask ran.0) ran.1 ran.2)
          (sym c.in-Drill.is) (c.drill-ending.new.core, refl, ran.0, refl, ran.4, refl, ran.5),
    )

pub returns-in-Drill-clause-read_fault : goal.returns-in-Drill-clause-read_fault
returns-in-Drill-clause-read_fault g c = λ is. absurd ((alone_ends c.drill-ending.result c.drill-ending.ensures.endings).0 is)

pub returns-in-Drill-clause-spent : goal.returns-in-Drill-clause-spent
returns-in-Drill-clause-spent g c = λ is. absurd ((alone_ends c.drill-ending.result c.drill-ending.ensures.endings).1 is)

pub returns-in-Drill-clause-endings : goal.returns-in-Drill-clause-endings
returns-in-Drill-clause-endings g c = (alone_ends c.drill-ending.result c.drill-ending.ensures.endings).3

pub returns-in-Alone-clause-came : goal.returns-in-Alone-clause-came
returns-in-Alone-clause-came g c =
    let told = c.one_line-ending.ensures.told in
    let line : List ℕ = string_bytes c.in-Alone.line in
    let same : c.as_bytes.result.now ≡ line = c.as_bytes.ensures.value ∙ c.as_str.ensures.value in
    let old = g.C.Clock.moments c.args.clock.now in
    let core = c.one_line-ending.new.port in (
      Ask told.0 ∷ [],
      told.1 ∷ [],
      told.2,
      told.3,
      subst (λ a. CameOver (command_of a) g.D.Device c.args.core (Open core) (g.S.Source.left c.args.source.now) (g.K.Sink.taken c.args.sink.now) old
          (g.S.Source.left c.args.source.now) (g.K.Sink.taken c.one_line-ending.new.sink) (g.C.Clock.moments c.one_line-ending.new.clock) c.one_line-ending.result (Ask told.0 ∷ []) (told.1 ∷ []) told.2) (sym c.in-Alone.is) (
            core,
            refl,
            told.0,
            told.1,
            refl,
            refl,
            over_one (port_of g.D.Device) c.args.core core told.0 told.1 told.4,
            (alone_ends c.one_line-ending.result c.one_line-ending.ensures.endings).2,
            subst (λ (l : List ℕ). AsksNext old l told.2 told.0) same told.5,
            c.one_line-ending.ensures.clock,
            told.6,
          ),
    )

pub returns-in-Alone-clause-read_fault : goal.returns-in-Alone-clause-read_fault
returns-in-Alone-clause-read_fault g c = λ is. absurd ((alone_ends c.one_line-ending.result c.one_line-ending.ensures.endings).0 is)

pub returns-in-Alone-clause-spent : goal.returns-in-Alone-clause-spent
returns-in-Alone-clause-spent g c = λ is. absurd ((alone_ends c.one_line-ending.result c.one_line-ending.ensures.endings).1 is)

pub returns-in-Alone-clause-endings : goal.returns-in-Alone-clause-endings
returns-in-Alone-clause-endings g c = (alone_ends c.one_line-ending.result c.one_line-ending.ensures.endings).3

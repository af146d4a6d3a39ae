use Rattle.std.proofs.Common.{◌≡◌, ◌≤◌, ◌^◌, ◌∙◌, inl, inr, ℕ, List, ap, length, refl, subst, sym}
use Rattle.std.proofs.lemmas.List.{length-map}
use Rattle.std.specs.Prelude.{MatchResult, OnErr}
use Rattle.client_scripts.specs.declared.script.Answered.{Answered}
use Rattle.session_meaning.specs.ServedRuns.{EndsServing}
use Rattle.trace_shell.specs.Dealing.{HasDealt, HasStopped, scripts_in}
use Rattle.trace_shell.proofs.ServingLemmas.{came_asked, came_starved, came_stopped, few_scripts, needs_no_source, of_ok}
use Rattle.trace_shell.proofs.serving.serve.Goals as goal

pub returns-in-Err-clause-came : goal.returns-in-Err-clause-came
returns-in-Err-clause-came g c =
    let dealt = c.read_scripts.ensures.dealt in
    let told = g.C.Clock.moments c.args.clock.now in
    let to_tell = g.C.Clock.moments c.read_scripts.new.clock in
    let left = g.S.Source.left c.read_scripts.new.source in (
      dealt.0,
      dealt.1,
      came_stopped g.D.Device c.args.clients c.args.rounds c.args.core (g.S.Source.left c.args.source.now) left (g.K.Sink.taken c.args.sink.now) told to_tell c.in-Err.ending dealt.0
          c.in-Err.ensures.early
          (λ text is.
          subst (λ r. MatchResult r (λ scripts. HasDealt c.args.clients told text to_tell (scripts_in scripts.items) dealt.0)
          (λ ending. HasStopped c.args.clients told text left to_tell ending dealt.0)) c.in-Err.is (dealt.2 text is)),
    )

pub returns-in_default-clause-came : goal.returns-in_default-clause-came
returns-in_default-clause-came g c =
    let dealt = c.read_scripts.ensures.dealt in
    let told = g.C.Clock.moments c.args.clock.now in
    let between = g.C.Clock.moments c.read_scripts.new.clock in
    let to_tell = g.C.Clock.moments c.with_upkeep.new.clock in
    let left = g.S.Source.left c.read_scripts.new.source in (
      dealt.0,
      dealt.1,
      came_starved g.D.Device c.args.clients c.args.rounds c.args.core (g.S.Source.left c.args.source.now) left (g.K.Sink.taken c.args.sink.now) told between to_tell (scripts_in c.in-Ok.scripts.items)
          dealt.0
          (λ text is.
          subst (λ r. MatchResult r (λ scripts. HasDealt c.args.clients told text between (scripts_in scripts.items) dealt.0)
          (λ ending. HasStopped c.args.clients told text left between ending dealt.0)) c.in-Ok.is (dealt.2 text is))
          c.args.core refl (inl (ap g.C.Clock.moments c.in_default.ensures.starved)),
    )

pub run_scripts-core-requires-clause-few : goal.run_scripts-core-requires-clause-few
run_scripts-core-requires-clause-few g c κs within =
    let scripts = c.in-Ok.scripts in
    let all = c.in-Ok-with_upkeep.scripts in
    let is = c.in-Ok-with_upkeep.ensures.all in
    let few : length scripts.items ≤ 16 = subst (λ (n : ℕ). n ≤ 16) (sym c.in-Ok.ensures.as_many ∙ scripts.ok.0) c.requires.few in
    subst (λ (n : ℕ). n ≤ 2 ^ 31) (sym all.ok.0)
    (few_scripts (scripts_in scripts.items) all.items is.0 _ is.2 (subst (λ (n : ℕ). n ≤ 16) (sym (length-map scripts.items _)) few))

pub returns-in_default-answers-clause-came : goal.returns-in_default-answers-clause-came
returns-in_default-answers-clause-came g c =
    let dealt = c.read_scripts.ensures.dealt in
    let told = g.C.Clock.moments c.args.clock.now in
    let between = g.C.Clock.moments c.read_scripts.new.clock in
    let to_tell = g.C.Clock.moments c.with_upkeep.new.clock in
    let left = g.S.Source.left c.read_scripts.new.source in (
      dealt.0,
      dealt.1,
      came_starved g.D.Device c.args.clients c.args.rounds c.args.core (g.S.Source.left c.args.source.now) left (g.K.Sink.taken c.args.sink.now) told between to_tell (scripts_in c.in-Ok.scripts.items)
          dealt.0
          (λ text is.
          subst (λ r. MatchResult r (λ scripts. HasDealt c.args.clients told text between (scripts_in scripts.items) dealt.0)
          (λ ending. HasStopped c.args.clients told text left between ending dealt.0)) c.in-Ok.is (dealt.2 text is))
          c.run_scripts-core.result.0
          (subst (λ r. OnErr r (c.run_scripts-core.result.0 ≡ c.args.core)) c.in_default-answers.is c.run_scripts-core.ensures.refused) (inr c.in-Ok-with_upkeep.ensures.clock),
    )

pub returns-clause-came : goal.returns-clause-came
returns-clause-came g c =
    let dealt = c.read_scripts.ensures.dealt in
    let told = g.C.Clock.moments c.args.clock.now in
    let between = g.C.Clock.moments c.read_scripts.new.clock in
    let to_tell = g.C.Clock.moments c.with_upkeep.new.clock in
    let left = g.S.Source.left c.read_scripts.new.source in
    let old = g.K.Sink.taken c.args.sink.now in
    let new = g.K.Sink.taken c.write_all-ending.new.sink in
    let all = c.in-Ok-with_upkeep.ensures.all in
    let later = c.run_scripts-core.result.0 in
    let scripts = c.in-Ok-with_upkeep.scripts.items in
    let served = of_ok c.run_scripts-core.result.1 _ c.in-Ok-answers.answers c.in-Ok-answers.is c.run_scripts-core.ensures.served in (
      dealt.0,
      dealt.1,
      came_asked g.D.Device c.args.clients c.args.rounds c.args.core (g.S.Source.left c.args.source.now) left old told between to_tell (scripts_in c.in-Ok.scripts.items) dealt.0
          (λ text is.
          subst (λ r. MatchResult r (λ scripts. HasDealt c.args.clients told text between (scripts_in scripts.items) dealt.0)
          (λ ending. HasStopped c.args.clients told text left between ending dealt.0)) c.in-Ok.is (dealt.2 text is))
          later new c.write_all-ending.result scripts all.0 c.in-Ok-answers.answers.items served.0 all.1 all.2 c.in-Ok-with_upkeep.ensures.clock served.2
          (subst (λ (answers : List Answered). EndsServing c.write_all-ending.result answers old new) c.as_slice.ensures.value c.write_all-ending.ensures.ends)
          (needs_no_source c.write_all-ending.result c.write_all-ending.ensures.endings),
    )

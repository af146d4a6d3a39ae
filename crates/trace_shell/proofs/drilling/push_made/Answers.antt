use Rattle.std.proofs.Common.{◌≡◌, ◌∷◌, ◌∙◌, List, [], subst, ℕ}
use Rattle.drill_input.specs.Drill.{drill_line}
use Rattle.session_text.specs.Requests.{AsksPush}
use Rattle.session_meaning.specs.Drill.{upkeep_after}
use Rattle.trace_shell.proofs.DrillLemmas.{line_one, made_holds, made_one, made_then}
use Rattle.trace_shell.proofs.drilling.push_made.Goals as goal

pub settle-requires-clause-holds : goal.settle-requires-clause-holds
settle-requires-clause-holds g c = λ κs outlives.
    let pushed = c.push-reply.ensures in
    made_holds g.D.Device _ _ c.args.counts.now c.add.new.self (pushed.0 ∷ []) (c.push-reply.result ∷ [])
    (made_one g.D.Device c.args.core.now c.push-reply.new.core c.args.counts.now c.add.new.self pushed.0 c.push-reply.result pushed.2 c.add.ensures) c.requires.holds

pub returns-clause-made : goal.returns-clause-made
returns-clause-made g c =
    let pushed = c.push-reply.ensures in
    let after = c.settle.ensures in
    let line : c.as_bytes.result.now ≡ drill_line c.args.seed c.args.index = c.as_bytes.ensures.value ∙ (c.as_str.ensures ∙ c.in_ok-line.ensures.line) in
    let asks = subst (λ (l : List ℕ). AsksPush c.now-moment.result l pushed.0) line pushed.1 in
    let one = made_one g.D.Device c.args.core.now c.push-reply.new.core c.args.counts.now c.add.new.self pushed.0 c.push-reply.result pushed.2 c.add.ensures in (
      pushed.0 ∷ upkeep_after c.args.index c.args.traces,
      c.push-reply.result ∷ after.0,
      made_then g.D.Device _ _ _ _ _ _ (pushed.0 ∷ []) (upkeep_after c.args.index c.args.traces) (c.push-reply.result ∷ []) after.0 one after.1,
      line_one c.args.seed c.args.traces c.args.index c.now-moment.result _ _ pushed.0 c.now-moment.ensures.moment asks c.now-moment.ensures.later,
    )

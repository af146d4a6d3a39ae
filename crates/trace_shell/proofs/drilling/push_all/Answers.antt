use Rattle.std.proofs.Common.{◌≡◌, ◌+◌, ◌++◌, [], arith, refl, subst, ℕ}
use Rattle.session_meaning.specs.Drill.{LinesMade}
use Rattle.trace_shell.proofs.DrillLemmas.{lines_more, made_holds, made_none, made_then}
use Rattle.trace_shell.proofs.drilling.push_all.Goals as goal

pub loop-index-init : goal.loop-index-init
loop-index-init g c = record { made = ([], [], made_none g.D.Device c.args.core.now c.args.counts.now, (refl, refl)); holds = c.requires }

pub loop-index-preserved : goal.loop-index-preserved
loop-index-preserved g c =
    let so_far = c.loop-index.invariant.made in
    let one = c.in_ok-push_made.ensures.made in
    let at : c.loop-index.index ≡ 0 + c.loop-index.index = omega arith in
    let next = subst (λ (n : ℕ). LinesMade c.args.seed c.args.traces n 1 (g.C.Clock.moments c.loop-index.clock) one.0 (g.C.Clock.moments c.push_made.new.clock)) at one.3 in record {
      made = (
        so_far.0 ++ one.0,
        so_far.1 ++ one.1,
        made_then g.D.Device _ _ _ _ _ _ _ _ _ _ so_far.2 one.2,
        lines_more c.args.seed c.args.traces 0 c.loop-index.index (g.C.Clock.moments c.args.clock.now) (g.C.Clock.moments c.loop-index.clock) (g.C.Clock.moments c.push_made.new.clock) so_far.0 one.0 so_far.3 next,
      );
      holds = made_holds g.D.Device _ _ _ _ _ _ one.2 c.loop-index.invariant.holds;
    }

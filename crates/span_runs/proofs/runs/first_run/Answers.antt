use Rattle.std.proofs.Common.{◌≡◌, map, arith}
use Rattle.std.proofs.lemmas.Grind.{common_steps}
use Rattle.span_runs.specs.Runs.{of_one}
use Rattle.span_runs.proofs.FirstRun.{first_run_split, run_len, run_len_ends}
use Rattle.span_runs.proofs.runs.first_run.Goals.{then-loop-n-test+else-are_of_one, else-loop-n-test}
use Rattle.span_runs.proofs.runs.first_run.Goals as goal

pub returns-clause-runs : goal.returns-clause-runs
returns-clause-runs g c =
    let same = of_one g.O.PartialEq.eq g.O.Origin.of in
    let span = g.H.HasSpan.span in
    let items = c.args.items.now in
    let len : c.loop-n.n ≡ run_len same (map span items) = elim c.loop-n-test.branch [
      | then-loop-n-test+else-are_of_one w ↦ grind (arith, common_steps, w.are_of_one.ensures)
      | else-loop-n-test w ↦ run_len_ends same span items c.loop-n.n c.loop-n.invariant.2 (omega arith) (omega arith)
    ] in
    first_run_split same span items _ _ c.loop-n.n len c.split_at.ensures.front c.split_at.ensures.back

use Rattle.std.proofs.Common.{rules, ◌≡◌, ◌∙◌, ap, arith, slice_index_or}
use Rattle.live_traces.specs.Parts.{least_with}
use Rattle.live_traces.proofs.Least.{least_run}
use Rattle.live_traces.proofs.live.least_of_runs.Goals as goal

pub loop-run-preserved : goal.loop-run-preserved
loop-run-preserved c =
    let here : slice_index_or c.args.runs.now c.loop-run.run-index c.run-item.result ≡ c.run-item.result = search rules in
    c.least_of_rows-least.ensures ∙ ap (least_with c.loop-run.least) c.as_slice.ensures.rows ∙ ap (λ o. least_with o c.run-item.result) c.loop-run.invariant
    ∙ least_run c.args.found c.args.runs.now c.loop-run.run-index c.run-item.result (omega arith) here

use Rattle.std.proofs.Common.{rules, ◌≡◌, ◌∙◌, ap, arith, slice_index_or}
use Rattle.live_traces.specs.Rows.{chunk_rows}
use Rattle.live_traces.specs.Parts.{least_with}
use Rattle.live_traces.proofs.Least.{least_arrival}
use Rattle.live_traces.proofs.live.least_of_arrivals.Goals as goal

pub loop-arrival-preserved : goal.loop-arrival-preserved
loop-arrival-preserved c =
    let here : slice_index_or c.args.arrivals.now c.loop-arrival.arrival-index c.arrival-item.result ≡ c.arrival-item.result = search rules in
    c.least_of_chunk-least.ensures ∙ ap (λ o. least_with o (chunk_rows c.arrival-item.result.chunk)) c.loop-arrival.invariant
    ∙ least_arrival c.args.found c.args.arrivals.now c.loop-arrival.arrival-index c.arrival-item.result (omega arith) here

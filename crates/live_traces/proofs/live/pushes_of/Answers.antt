use Rattle.std.proofs.Common.{rules, ◌≡◌, ◌∙◌, ap, sym, arith, take, slice_index_or}
use Rattle.store_model.specs.State.{live_rows}
use Rattle.live_traces.specs.Rows.{push_rows}
use Rattle.live_traces.specs.Parts.{arrivals_of}
use Rattle.live_traces.proofs.LiveRows.{pushes_more, take_more_of}
use Rattle.live_traces.proofs.live.pushes_of.Goals as goal

pub loop-arrival-preserved : goal.loop-arrival-preserved
loop-arrival-preserved c =
    let here : slice_index_or c.args.arrivals.now c.loop-arrival.arrival-index c.arrival-item.result ≡ c.arrival-item.result = search rules in
    ap push_rows c.in_ok-push.ensures.items
    ∙ pushes_more c.loop-arrival.pushes.items (take c.loop-arrival.arrival-index c.args.arrivals.now) c.arrival-item.result c.in_ok-chunk.chunk c.in_ok-chunk.ensures c.loop-arrival.invariant
    ∙ ap (λ xs. live_rows (arrivals_of xs)) (sym (take_more_of c.args.arrivals.now c.loop-arrival.arrival-index c.arrival-item.result (omega arith) here))

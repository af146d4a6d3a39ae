use Rattle.std.proofs.Common.{rules, ◌≡◌, ◌∙◌, ◌++◌, ap, sym, arith, append_assoc, take, slice_index_or}
use Rattle.store_model.specs.After.{arrived}
use Rattle.live_traces.specs.Rows.{chunk_rows}
use Rattle.live_traces.specs.Parts.{live_of, arrivals_of}
use Rattle.live_traces.specs.declared.live.Entry.{Entry}
use Rattle.live_traces.proofs.LiveRows.{arrivals-more, live_of-more, take_more_of}
use Rattle.live_traces.proofs.cut.explode.Goals as goal

pub loop-arrival-preserved : goal.loop-arrival-preserved
loop-arrival-preserved c =
    let here : slice_index_or c.args.arrivals.now c.loop-arrival.arrival-index c.arrival-item.result ≡ c.arrival-item.result = search rules in
    let added : Entry = record { run = c.in_ok-run.run'; moment = c.arrival-item.result.moment } in
    ap live_of c.in_ok-push.ensures.items ∙ live_of-more c.loop-arrival.all.items added
    ∙ ap (λ q. q ++ arrived added.moment added.run) c.loop-arrival.invariant
    ∙ ap (λ run. (live_of c.args.all.now.items ++ arrivals_of (take c.loop-arrival.arrival-index c.args.arrivals.now)) ++ arrived added.moment run) c.in_ok-run.ensures
    ∙ append_assoc (live_of c.args.all.now.items) (arrivals_of (take c.loop-arrival.arrival-index c.args.arrivals.now)) (arrived added.moment (chunk_rows c.arrival-item.result.chunk))
    ∙ ap (λ q. live_of c.args.all.now.items ++ q)
    (sym (arrivals-more (take c.loop-arrival.arrival-index c.args.arrivals.now) c.arrival-item.result)
    ∙ ap arrivals_of (sym (take_more_of c.args.arrivals.now c.loop-arrival.arrival-index c.arrival-item.result (omega arith) here)))

use Rattle.std.proofs.Common.{rules, ◌≡◌, ◌∙◌, [], ap, sym, arith, take, slice_index_or}
use Rattle.store_model.specs.State.{live_rows}
use Rattle.live_traces.specs.Rows.{run_rows}
use Rattle.live_traces.specs.Parts.{live_of}
use Rattle.live_traces.proofs.LiveRows.{runs_more, take_more_of}
use Rattle.live_traces.proofs.live.rests_of.Goals as goal

pub loop-entry-preserved : goal.loop-entry-preserved
loop-entry-preserved c =
    let here : slice_index_or c.args.entries.now c.loop-entry.entry-index c.entry-item.result ≡ c.entry-item.result = search rules in
    ap run_rows c.in_ok-push.ensures.items
    ∙ runs_more [] c.loop-entry.rests.items (take c.loop-entry.entry-index c.args.entries.now) c.entry-item.result c.in_ok-run.run' c.in_ok-run.ensures c.loop-entry.invariant
    ∙ ap (λ es. live_rows (live_of es)) (sym (take_more_of c.args.entries.now c.loop-entry.entry-index c.entry-item.result (omega arith) here))

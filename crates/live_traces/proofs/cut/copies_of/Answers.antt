use Rattle.std.proofs.Common.{rules, ◌≡◌, ◌∙◌, ◌++◌, ap, sym, arith, take, slice_index_or}
use Rattle.store_model.specs.After.{arrived}
use Rattle.live_traces.specs.Parts.{live_of}
use Rattle.live_traces.specs.declared.live.Entry.{Entry}
use Rattle.live_traces.proofs.LiveRows.{live_of-more, take_more_of}
use Rattle.live_traces.proofs.cut.copies_of.Goals as goal

pub loop-entry-preserved : goal.loop-entry-preserved
loop-entry-preserved c =
    let here : slice_index_or c.args.entries.now c.loop-entry.entry-index c.entry-item.result ≡ c.entry-item.result = search rules in
    let added : Entry = record { run = c.in_ok-run.run'; moment = c.entry-item.result.moment } in
    ap live_of c.in_ok-push.ensures.items ∙ live_of-more c.loop-entry.all.items added
    ∙ ap (λ q. q ++ arrived added.moment added.run) c.loop-entry.invariant
    ∙ ap (λ run. live_of (take c.loop-entry.entry-index c.args.entries.now) ++ arrived added.moment run) c.in_ok-run.ensures
    ∙ sym (live_of-more (take c.loop-entry.entry-index c.args.entries.now) c.entry-item.result)
    ∙ ap live_of (sym (take_more_of c.args.entries.now c.loop-entry.entry-index c.entry-item.result (omega arith) here))

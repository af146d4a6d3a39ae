use Rattle.std.proofs.Common.{rules, ◌≡◌, ◌∙◌, ap, arith, slice_index_or}
use Rattle.live_traces.specs.Parts.{least_with}
use Rattle.live_traces.proofs.Least.{least_entry}
use Rattle.live_traces.proofs.live.least_of_entries.Goals as goal

pub loop-entry-preserved : goal.loop-entry-preserved
loop-entry-preserved c =
    let here : slice_index_or c.args.entries.now c.loop-entry.entry-index c.entry-item.result ≡ c.entry-item.result = search rules in
    c.least_of_rows-least.ensures ∙ ap (least_with c.loop-entry.least) c.as_slice.ensures ∙ ap (λ o. least_with o c.entry-item.result.run) c.loop-entry.invariant
    ∙ least_entry c.args.found c.args.entries.now c.loop-entry.entry-index c.entry-item.result (omega arith) here

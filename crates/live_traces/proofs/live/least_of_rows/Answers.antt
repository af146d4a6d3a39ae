use Rattle.std.proofs.Common.{rules, ◌≡◌, ◌∙◌, ap, arith, slice_index_or}
use Rattle.span_types.specs.declared.ids.Place.{Place}
use Rattle.live_traces.specs.Parts.{lower}
use Rattle.live_traces.proofs.Least.{least_row}
use Rattle.live_traces.proofs.live.least_of_rows.Goals as goal

pub loop-row-preserved : goal.loop-row-preserved
loop-row-preserved c =
    let here : slice_index_or c.args.rows.now c.loop-row.row-index c.row-item.result ≡ c.row-item.result = search rules in
    c.lower_of-least.ensures ∙ ap (λ n. lower c.loop-row.least n) (ap (λ (p : Place). p.number) c.place.ensures)
    ∙ ap (λ o. lower o c.row-item.result.place.number) c.loop-row.invariant
    ∙ least_row c.args.found c.args.rows.now c.loop-row.row-index c.row-item.result (omega arith) here

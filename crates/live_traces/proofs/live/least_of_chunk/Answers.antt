use Rattle.std.proofs.Common.{◌≤◌, ◌∙◌, ap, sym, arith, length}
use Rattle.span_types.specs.declared.ids.Place.{Place}
use Rattle.live_traces.specs.Parts.{lower}
use Rattle.live_traces.proofs.Least.{least_some}
use Rattle.live_traces.proofs.live.least_of_chunk.Goals as goal

pub returns : goal.returns
returns c =
    let some : 1 ≤ length c.args.chunk.now.spans = omega arith in
    c.lower_of.ensures ∙ ap (λ n. lower c.args.found n) (ap (λ (p : Place). p.number) c.place.ensures)
    ∙ sym (least_some c.args.found c.args.chunk.now some)

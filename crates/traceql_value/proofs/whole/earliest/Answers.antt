use Rattle.std.proofs.Common.{◌+◌, min, drop, ap, sym, ◌∙◌}
use Rattle.span_types.specs.declared.spans.Row.{Row}
use Rattle.std.proofs.lemmas.List.{at_drop_more}
use Rattle.traceql_value.specs.Spans.{earliest}
use Rattle.traceql_value.proofs.Earliest.{earliest_later}
use Rattle.traceql_value.proofs.whole.earliest.Goals as goal

pub loop-row-preserved : goal.loop-row-preserved
loop-row-preserved c =
    let rows = c.args.rows.now in
    let i = c.loop-row.row-index in
    let known = c.loop-row.earliest in
    let row = c.row-item.result in
    let rest = drop (i + 1) rows in
    ap (λ n. earliest n rest) (c.min-earliest.ensures ∙ ap (λ s. min known s) c.start_of.ensures) ∙ earliest_later known row.span.start rest
    ∙ ap (λ (r : Row). min r.span.start (earliest known rest)) c.row-item.is
    ∙ sym (at_drop_more (earliest known) rows i row c.loop-row-test.true) ∙ c.loop-row.invariant

use Rattle.std.proofs.Common.{length, sym, ◌∙◌, ap, arith}
use Rattle.std.proofs.lemmas.List.{length-map}
use Rattle.span_types.specs.declared.spans.Row.{Row}
use Rattle.stripe_skims.proofs.OrderLaws.{up_done, up_more}
use Rattle.stripe_skims.proofs.order.ascends.Goals as goal

pub loop-index-preserved : goal.loop-index-preserved
loop-index-preserved c = λ rows is.
    up_more rows c.loop-index.index c.loop-index.before c.in-Some-key.next (c.loop-index.invariant rows is) (c.in-Some-key.ensures rows is) (sym c.is_before.ensures ∙ c.if-not-is_before.false)

pub returns : goal.returns
returns c = λ _ rows is.
    let size = ap length c.as_slice-count.ensures.value ∙ ap length is.starts ∙ length-map rows (λ (row : Row). row.span.start) in
    up_done rows c.loop-index.index c.loop-index.before (c.loop-index.invariant rows is) (omega (arith, size, c.loop-index-test.false, c.if-count-eq0.false))

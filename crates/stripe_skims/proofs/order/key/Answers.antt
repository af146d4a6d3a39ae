use Rattle.std.proofs.Common.{◌∙◌}
use Rattle.stripe_skims.proofs.OrderLaws.{key_is}
use Rattle.stripe_skims.proofs.order.key.Goals as goal

pub returns : goal.returns
returns c = λ rows is.
    key_is rows c.args.index c.as_slice-traces.result.now c.as_slice-starts.result.now c.as_slice-spans.result.now _ _ _ c.if-index-starts.false
    (c.as_slice-traces.ensures.value ∙ is.traces) (c.as_slice-starts.ensures.value ∙ is.starts) (c.as_slice-spans.ensures.value ∙ is.spans)

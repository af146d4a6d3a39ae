use Rattle.std.proofs.Common.{List, subst}
use Rattle.span_types.specs.declared.spans.Row.{Row}
use Rattle.span_types.specs.First.{IsFirstOf}
use Rattle.span_types.proofs.FirstLaws.{firsts_alike}
use Rattle.block_build.proofs.order.firsts_of.Goals as goal

pub returns : goal.returns
returns c =
    firsts_alike c.in_ok-sorted.sorted.items c.args.rows.now c.in_ok-firsts.firsts.items c.in_ok-sorted.ensures.same
    (subst (λ (l : List Row). IsFirstOf l c.in_ok-firsts.firsts.items) c.as_slice.ensures.value c.in_ok-firsts.ensures)

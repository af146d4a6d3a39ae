use Rattle.std.proofs.Common.{arith, subst}
use Rattle.std.proofs.lemmas.Grind.{common_steps}
use Rattle.std.proofs.lemmas.List.Elements.{All-more}
use Rattle.otlp_spans.proofs.values.list.Goals as goal

pub loop-item-preserved : goal.loop-item-preserved
loop-item-preserved g c = (
  grind (arith, common_steps),
  All-more g.T.ToJson.Fits c.args.items.now c.loop-item.item-index c.item-item.result (omega arith) c.loop-item.invariant.1
      (subst g.T.ToJson.Fits c.item-item.is c.in_ok-json.ensures.fits),
)

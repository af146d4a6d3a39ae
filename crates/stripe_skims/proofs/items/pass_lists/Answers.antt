use Rattle.std.proofs.Common.{◌∙◌}
use Rattle.stripe_skims.proofs.ItemLaws.{list_at, lists_done, lists_more}
use Rattle.stripe_skims.proofs.items.pass_lists.Goals as goal

pub loop-preserved : goal.loop-preserved
loop-preserved g c = record {
  stays = λ s. c.pass_list.ensures.stays s ∙ c.loop.invariant.stays s;
  ready = c.pass_list.ensures.ready;
  far = lists_more c.args.there (g.P.Pass.reading c.args.kind.now) (g.P.Pass.reading c.loop.kind) c.args.count c.loop.counter c.loop.fields c.pass_list.new.fields c.loop.some c.in_ok-filled.filled _
      c.loop-test.true c.loop.invariant.far c.loop.invariant.stays c.in_ok-filled.ensures.passes;
}

pub returns : goal.returns
returns g c = lists_done (list_at c.args.there (g.P.Pass.reading c.args.kind.now)) c.args.count c.loop.counter c.args.fields.now c.loop.fields c.loop.some c.loop-test.false c.loop.invariant.far

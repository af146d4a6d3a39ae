use Rattle.std.proofs.Common.{◌∙◌, refl}
use Rattle.stripe_skims.proofs.ItemLaws.{going_done, going_more}
use Rattle.stripe_skims.proofs.items.pass_items.Goals as goal

pub loop-preserved : goal.loop-preserved
loop-preserved g c = record {
  stays = λ s. c.pass.ensures.stays s ∙ c.loop.invariant.stays s;
  ready = c.pass.ensures.ready;
  far = going_more (g.P.Pass.reading c.args.kind.now) (g.P.Pass.reading c.loop.kind) c.args.count c.loop.counter c.loop.fields c.pass.new.fields _ c.loop-test.true c.loop.invariant.far c.loop.invariant.stays (c.if-not-pass.ensures.passes refl);
}

pub returns-clause-passes : goal.returns-clause-passes
returns-clause-passes g c = λ _. going_done (g.P.Pass.reading c.args.kind.now) c.args.count c.loop.counter c.loop.fields _ c.loop-test.false c.loop.invariant.far

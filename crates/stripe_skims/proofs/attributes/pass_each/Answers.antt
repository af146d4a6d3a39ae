use Rattle.std.proofs.Common.{sym, ◌∙◌, refl}
use Rattle.stripe_skims.proofs.SkipLaws.{far_done, far_more}
use Rattle.stripe_skims.proofs.attributes.pass_each.Goals as goal

pub loop-preserved : goal.loop-preserved
loop-preserved c = record {
  size = c.pass_attr.ensures.size ∙ c.loop.invariant.size;
  before = c.pass_attr.ensures.before c.loop.invariant.before;
  far = λ table size apart.
      let same = size ∙ c.pass_attr.ensures.size in
      far_more table c.loop.stamps c.pass_attr.new.stamps c.args.list c.args.count c.loop.counter c.loop.fields c.pass_attr.new.fields _ c.loop-test.true (c.loop.invariant.far table same apart)
      (λ before stamped. c.if-not-pass_attr.ensures.passes refl table before same apart stamped);
}

pub returns-clause-passes : goal.returns-clause-passes
returns-clause-passes c = λ _ table size apart.
    far_done table c.loop.stamps c.args.list c.args.count c.loop.counter c.loop.fields _ c.loop-test.false (c.loop.invariant.far table (size ∙ sym c.loop.invariant.size) apart)

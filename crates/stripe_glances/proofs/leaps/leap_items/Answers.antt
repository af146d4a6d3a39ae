use Rattle.std.proofs.Common.{refl, arith}
use Rattle.stripe_glances.proofs.LandLaws.{comes_first, comes_last, comes_more}
use Rattle.stripe_glances.proofs.leaps.leap_items.Goals as goal

pub loop-init : goal.loop-init
loop-init g c = λ texts. comes_first (λ _. Unit {0}) (g.L.Leap.reading c.args.kind.now texts) c.args.count _ c.args.reader.now (omega arith) tt

pub loop-preserved : goal.loop-preserved
loop-preserved g c = λ texts. comes_more c.args.count c.loop.counter c.leap.new.reader c.loop-test.true (c.loop.invariant texts) (λ _ _ _ _. tt) (λ before. c.if-not-leap.ensures refl texts before)

pub returns : goal.returns
returns g c = λ _ texts. comes_last c.args.count c.loop.counter c.loop-test.false (c.loop.invariant texts)

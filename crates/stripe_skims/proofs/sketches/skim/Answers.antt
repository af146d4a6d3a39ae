use Rattle.std.proofs.Common.{refl}
use Rattle.stripe_skims.proofs.StripeLaws.{ordered_told}
use Rattle.stripe_skims.proofs.sketches.skim.Goals as goal

pub returns : goal.returns
returns c = ordered_told c.args.extended c.args.bytes.now c.in_ok-sketch.sketch c.in_ok-sketch.ensures (c.if-not-ascends.ensures refl)

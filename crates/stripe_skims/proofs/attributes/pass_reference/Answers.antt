use Rattle.std.proofs.Common.{◌+◌, max, ◌∙◌, ap, arith}
use Rattle.block_columns.proofs.ReadingSteps.{number_kept}
use Rattle.stripe_skims.proofs.attributes.pass_reference.Goals as goal

pub returns : goal.returns
returns c =
    let kept = number_kept _ _ _ c.in-Ok.ensures in (
      omega (arith, c.if-number-texts.false),
      record {
        after = c.number.new.self;
        read = c.in-Ok.ensures;
        known = omega (arith, kept, c.used-used.ensures, c.if-number-used.false);
        is = c.count_from.ensures ∙ ap (λ k. record { within = c.number.new.self.within; stand = c.number.new.self.stand; used = k }) (c.max.ensures ∙ ap (λ k. max k (c.in-Ok.number + 1)) c.used-used.ensures);
      },
    )

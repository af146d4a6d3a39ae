use Rattle.std.proofs.Common.{◌≡◌, ℕ, List, length, refl, ap, arith}
use Rattle.block_stripes.proofs.StripeSteps.{overlaid}
use Rattle.block_stripes.proofs.stripe_writing.set_length.Goals as goal

pub loop-i-preserved : goal.loop-i-preserved
loop-i-preserved c =
    let eight : length c.to_le_bytes-field.result ≡ 8 = ap (λ (b : List ℕ). length b) c.to_le_bytes-field.ensures in
    overlaid c.to_le_bytes-field.result c.args.bytes.now.items c.loop-i.bytes.items c.loop-i.i _ (omega arith) (omega (arith, c.args.bytes.now.ok.0, c.requires)) refl c.loop-i.invariant

use Rattle.std.proofs.Common.{◌≡◌, ℕ, List, length, refl, ap, arith}
use Rattle.head_log.proofs.FramingLemmas.{overlaid}
use Rattle.head_log.proofs.prepared.set_length.Goals as goal

pub loop-i-preserved : goal.loop-i-preserved
loop-i-preserved c =
    let eight : length c.to_le_bytes-bytes.result ≡ 8 = ap (λ (b : List ℕ). length b) c.to_le_bytes-bytes.ensures in
    overlaid c.to_le_bytes-bytes.result c.args.text.now.items c.loop-i.text.items c.loop-i.i _ (omega arith) (omega (arith, c.args.text.now.ok.0, c.requires)) refl c.loop-i.invariant

use Rattle.std.proofs.Common.{◌≡◌, ◌*◌, ℕ, min, length, take, drop, ap, ◌∙◌, arith}
use Rattle.std.proofs.lemmas.List.{drop_min, take_min}
use Rattle.block_build.proofs.rows.stripe_rows.Goals as goal

pub returns : goal.returns
returns c =
    let from : c.min.result ≡ min (256 * c.args.number) (length c.args.rows.now) = omega (arith, c.min.ensures) in
    let rest : c.split_at.result.1.now ≡ drop (256 * c.args.number) c.args.rows.now =
    c.split_at.ensures.back ∙ ap (λ (k : ℕ). drop k c.args.rows.now) from ∙ drop_min (256 * c.args.number) c.args.rows.now in
    let count : c.min-2.result ≡ min 256 (length c.split_at.result.1.now) = omega (arith, c.min-2.ensures) in
    c.split_at-2.ensures.front ∙ ap (λ (k : ℕ). take k c.split_at.result.1.now) count ∙ take_min 256 c.split_at.result.1.now ∙ ap (take 256) rest

use Rattle.std.proofs.Common.{◌/◌, ◌++◌, ℕ, List, refl, ap, ◌∙◌, arith}
use Rattle.block_build.proofs.Drafting.{stripe_added}
use Rattle.block_build.proofs.draft.put_stripe.Goals as goal

pub returns : goal.returns
returns c =
    let old = c.args.bytes.now in
    let new = c.extend_from_slice.new.self in
    stripe_added c.args.form c.args.rows.now old.items new.items c.in_ok-stripe.stripe _ c.in_ok-stripe.ensures
    (c.in_ok-extend_from_slice.ensures.items ∙ ap (λ (l : List ℕ). old.items ++ l) c.as_slice.ensures) c.requires.whole (omega (arith, new.ok, new.small))
    (omega (arith, c.len-page.ensures, old.ok)) (ap (λ (k : ℕ). k / 4096) c.len.ensures) refl
    c.earliest-first.ensures c.latest-last.ensures c.moments_fit.ensures

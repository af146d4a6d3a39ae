use Rattle.std.proofs.Common.{◌≡◌, ℕ, ◌+◌, ◌*◌, drop, refl, sym, ap, ◌∙◌, arith}
use Rattle.std.proofs.lemmas.List.{drop-drop}
use Rattle.block_build.proofs.Drafting.{draft_begins, draft_can, draft_ends, draft_step}
use Rattle.block_build.proofs.draft.draft_of.Goals as goal

pub loop-number-init : goal.loop-number-init
loop-number-init c = draft_begins _ _ _ _ _ _ c.in_ok-bytes.ensures refl c.in_ok-stripes.ensures.items c.requires.order c.requires.form

pub put_stripe-requires-clause-can : goal.put_stripe-requires-clause-can
put_stripe-requires-clause-can c =
    draft_can _ _ c.stripe_count-count.result _ _ _ _ _ _ c.loop-number.invariant c.loop-number-test.true c.stripe_count-count.ensures c.stripe_rows-taken.ensures

pub put_stripe-requires-clause-whole : goal.put_stripe-requires-clause-whole
put_stripe-requires-clause-whole c = (let whole = c.loop-number.invariant.whole in omega (arith, whole))

pub loop-number-preserved : goal.loop-number-preserved
loop-number-preserved c =
    let next : 256 * (c.loop-number.number + 1) ≡ 256 * c.loop-number.number + 256 = omega arith in
    draft_step _ _ c.stripe_count-count.result _ _ _ _ _ _ _ _ _ _ _ c.loop-number.invariant c.loop-number-test.true c.stripe_count-count.ensures c.in_ok-stripe.ensures c.stripe_rows-taken.ensures
    (ap (λ (k : ℕ). drop k c.args.rows.now) next ∙ sym (drop-drop 256 (256 * c.loop-number.number) c.args.rows.now)) c.in_ok-push.ensures.items refl

pub returns : goal.returns
returns c =
    draft_ends _ _ c.stripe_count-count.result _ _ _ _ _ c.loop-number.invariant (omega (arith, c.loop-number-test.false)) c.stripe_count-count.ensures c.header_pages-front.ensures.pages

use Rattle.std.proofs.Common.{◌≡◌, ℕ, true, List, [], Bor, map, ap, subst, sym, ◌∙◌}
use Rattle.span_types.specs.declared.spans.Row.{Row}
use Rattle.span_types.specs.Equal.{same_resource, same_scope}
use Rattle.block_columns.specs.ColumnEncodings.{Encoded, wrote}
use Rattle.block_stripes.specs.StripeEncodings.{owned_rows}
use Rattle.block_stripes.specs.Stripes.{StripeHolds, can_be_stripe, is_extended}
use Rattle.block_stripes.proofs.KeptRows.{holds_written, if_ok_three}
use Rattle.block_stripes.proofs.StripeSteps.{numbered_of}
use Rattle.block_stripes.proofs.stripe_writing.write_refs.Goals as goal

pub put_rows-requires-clause-of_resources : goal.put_rows-requires-clause-of_resources
put_rows-requires-clause-of_resources c = c.in_ok-resources.ensures ∙ numbered_of same_resource (λ (r : Row). r.span.resource) c.lent-rows.result.now

pub put_rows-requires-clause-of_scopes : goal.put_rows-requires-clause-of_scopes
put_rows-requires-clause-of_scopes c = c.in_ok-scopes.ensures ∙ numbered_of same_scope (λ (r : Row). r.span.scope) c.lent-rows.result.now

pub returns : goal.returns
returns c =
    let form = c.args.form in
    let rows = c.lent-rows.result.now in
    let is : rows ≡ c.args.rows.now = c.lent-rows.ensures in
    let texts : List (List ℕ) = map (λ (k : Bor (List ℕ)). k.now) c.finish-body.result.1.keys in
    let can : can_be_stripe (is_extended form) rows ≡ true = subst (λ (l : List Row). can_be_stripe (is_extended form) l ≡ true) (sym is) c.requires in
    let page : c.put_rows.new.page ≡ wrote (owned_rows (is_extended form)) rows ([], []) = c.in_ok-put_rows.ensures.written ∙ ap (λ (e : Encoded (List ℕ)). wrote (owned_rows (is_extended form)) rows e) c.new-page.ensures in
    let made : (let e : Encoded (List ℕ) = (c.as_slice.result.now, texts) in e ≡ c.put_rows.new.page) = ap (λ (b : List ℕ). (b, texts)) (c.as_slice.ensures ∙ c.finish-body-2.ensures) ∙ c.finish-body.ensures in
    if_ok_three c.whole.result _ _ _ (λ bytes. StripeHolds form bytes c.args.rows.now) c.whole.ensures.bytes c.whole.ensures.short c.whole.ensures.fit (λ bytes is_whole short fit.
    subst (λ (l : List Row). StripeHolds form bytes l) is (holds_written form rows c.put_rows.new.page c.as_slice.result.now texts bytes can c.in_ok-put_rows.ensures.sound page made is_whole short fit))

use Rattle.std.proofs.Common.{◌≡◌, ap, sym, refl, ◌∙◌, Vec, Global, true}
use Rattle.span_types.specs.declared.spans.Row.{Row}
use Rattle.block_stripes.specs.Stripes.{can_be_stripe, is_extended}
use Rattle.block_build.proofs.RowByRow.{not_sure, put_written}
use Rattle.block_build.proofs.builder.Builder.write.Goals as goal

pub put-requires : goal.put-requires
put-requires c =
    let old = c.args.self.now in
    ap (can_be_stripe (is_extended old.form)) (c.as_slice-2.ensures.value ∙ c.in_ok-refs.ensures ∙ c.as_slice.ensures) ∙ sym c.can_be_stripe.ensures ∙ c.if-not-can_be_stripe.false

pub returns-then-not-can_be_stripe : goal.returns-then-not-can_be_stripe
returns-then-not-can_be_stripe c =
    let old = c.args.self.now in
    let rows : c.of-rows.result ≡ old.rows.items = c.of-rows.ensures ∙ ap (λ (v : Vec Row Global). v.items) c.replace-rows.ensures.value in
    not_sure old _ refl (ap (λ (v : Vec Row Global). v.items) c.replace-rows.ensures.after ∙ c.new.ensures.items) refl c.requires
    (sym (ap (can_be_stripe (is_extended old.form)) rows) ∙ sym c.can_be_stripe.ensures ∙ c.if-not-can_be_stripe.true)

pub returns : goal.returns
returns c =
    let old = c.args.self.now in
    let rows : c.of-rows.result ≡ old.rows.items = c.of-rows.ensures ∙ ap (λ (v : Vec Row Global). v.items) c.replace-rows.ensures.value in
    put_written c.put.result old _ _ c.as_slice-2.result.now refl (ap (λ (v : Vec Row Global). v.items) c.replace-rows.ensures.after ∙ c.new.ensures.items) refl refl refl refl refl
    (c.as_slice-2.ensures.value ∙ c.in_ok-refs.ensures ∙ c.as_slice.ensures ∙ rows) c.put.ensures

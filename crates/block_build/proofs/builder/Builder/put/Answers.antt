use Rattle.std.proofs.Common.{◌++◌, ℕ, List, max, ap, subst, sym, refl, ◌∙◌}
use Rattle.span_types.specs.declared.ids.TraceId.{TraceId}
use Rattle.block_format.specs.Blocks.{StripeHasEntry}
use Rattle.block_stripes.specs.Stripes.{StripeHolds}
use Rattle.block_build.proofs.builder.Builder.put.Goals as goal

pub returns : goal.returns
returns c =
    let old = c.args.self.now in
    let rows = c.args.rows.now in
    let stripe = c.in_ok-stripe.stripe in
    let given : StripeHolds old.form c.as_slice-3.result.now rows = subst (λ (b : List ℕ). StripeHolds old.form b rows) (sym c.as_slice-3.ensures) c.in_ok-stripe.ensures in
    record {
      entry = c.entry_of-entry.result;
      stripe = stripe;
      has = subst (λ (b : List ℕ). StripeHasEntry old.form c.entry_of-entry.result b rows) c.as_slice-3.ensures (c.entry_of-entry.ensures old.form given);
      form = refl;
      waiting = refl;
      stripes = c.in_ok-push.ensures.items;
      body = c.in_ok-extend_from_slice-2.ensures.items ∙ ap (λ (l : List ℕ). old.body.items ++ l) c.as_slice-2.ensures;
      ids = c.in_ok-extend_from_slice.ensures.ok ∙ ap (λ (l : List TraceId). old.ids ++ l) (c.as_slice.ensures ∙ c.in_ok-ids.ensures.ids);
      wanted = c.max-self.ensures ∙ ap (λ (k : ℕ). max old.wanted k) c.form_of.ensures;
      sure = refl;
    }

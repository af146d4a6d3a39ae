use Rattle.std.proofs.Common.{◌≡◌, ℕ, zero, suc, List, [], ◌∷◌, ◌++◌, Some, None, refl, sym, ◌∙◌, ap, subst, slice_get}
use Rattle.span_types.specs.declared.spans.Row.{Row}
use Rattle.span_tree.specs.Nodes.{IsOneTrace}
use Rattle.search_tests.proofs.one_span.alone.Goals as goal

-- a position at which one row stands
only : (r a : Row) (i : ℕ) → slice_get (r ∷ []) i ≡ Some a → (i ≡ 0) × (a ≡ r)
only r a zero e = (refl, let same : r ≡ a = cc in sym same)
only r a (suc i) e = absurd (let clash : None ≡ Some a = e in cc)

one : (r : Row) → IsOneTrace (r ∷ [])
one r = record {
  together = λ i j a b x y. ap (λ s. s.span.trace) ((only r a i x).1 ∙ sym (only r b j y).1);
  apart = λ i j a b x y same. (only r a i x).0 ∙ sym (only r b j y).0;
}

pub returns-clause-one_trace : goal.returns-clause-one_trace
returns-clause-one_trace c =
    let row : Row = record { place = record { number = 0; position = 0 }; span = c.in_ok-span.span } in
    let rows : c.of.result ≡ row ∷ [] = c.of.ensures ∙ c.in_ok-push.ensures.items ∙ ap (λ l. l ++ row ∷ []) c.in_ok-rows.ensures.items in
    subst IsOneTrace (sym rows) (one row)

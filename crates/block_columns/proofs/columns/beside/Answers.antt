use Rattle.std.proofs.Common.{◌≡◌, ◌++◌, inl, inr, ap, sym, ◌∙◌}
use Rattle.std.proofs.lemmas.List.{append-nil}
use Rattle.block_columns.proofs.Basics.{beside_no_left, beside_no_right}
use Rattle.block_columns.proofs.columns.beside.Goals as goal

pub returns : goal.returns
returns g c =
    let a = c.loop-row.row-iterator.a.rest in
    let b = c.loop-row.row-iterator.b.rest in
    let rows = c.loop-row.rows.items in
    elim c.in-None.ensures.steps [
      | inl p ↦ sym (append-nil rows) ∙ ap (λ l. rows ++ l) (sym (beside_no_left a.items b.items (sym a.ok.0 ∙ p.1.0))) ∙ c.loop-row.invariant
      | inr p ↦ sym (append-nil rows) ∙ ap (λ l. rows ++ l) (sym (beside_no_right a.items b.items (sym b.ok.0 ∙ p.1.0))) ∙ c.loop-row.invariant
    ]

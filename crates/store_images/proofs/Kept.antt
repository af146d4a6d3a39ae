-- Rows that count, and all rows that are stored.
use Rattle.std.proofs.Common.{◌≡◌, ◌⊎◌, inl, inr, ℕ, ◌+◌, ◌-◌, ◌<◌, ◌≤◌, List, [], ◌∷◌, length, drop, refl, sym, ◌∙◌, subst, arith}
use Rattle.std.specs.List.{Contains}
use Rattle.std.proofs.lemmas.List.Elements.{Contains-append_cases, Contains-append_left, Contains-append_right}
use Rattle.span_types.specs.declared.spans.Span.{Span}
use Rattle.span_types.specs.declared.spans.Row.{Row}
use Rattle.disk_model.specs.Images.{Image}
use Rattle.block_list.specs.declared.body.ListBody.{ListBody}
use Rattle.store_model.specs.History.{History, batch_rows, record_rows, count_of}
use Rattle.store_model.specs.Laws.{AgreesOn}
use Rattle.store_model.specs.RowSets.{OnePlace}
use Rattle.store_model.specs.State.{Block, block_rows}
use Rattle.store_model.proofs.KeepsFirsts.{number_in}
use Rattle.store_images.specs.Stored.{ImageStandsFor, SameFirsts, StoreHolds, first_number, kept_rows, stored_rows}
use Rattle.store_images.specs.Stored.ImageStores.{filled}
use Rattle.store_images.proofs.Between.{later_in}
use Rattle.store_images.proofs.Keeping.{rules_in}
use Rattle.store_images.proofs.Lists.{not_in_nil}

-- records count up from the first one
below_end : (n : ℕ) (batches : List (List Span)) (x : Row) → Contains (record_rows n batches) x → x.place.number < n + length batches
below_end n [] x c = absurd (not_in_nil x c)
below_end n (b ∷ bs) x c = elim (Contains-append_cases (batch_rows n b) (record_rows (n + 1) bs) x c) [
  | inl here ↦ let e = number_in n b x here in omega (arith, e)
  | inr later ↦ let e = below_end (n + 1) bs x later in omega (arith, e)
]

module _ (body : ListBody) (blocks : List Block) (batches : List (List Span)) (h : History) where
  kept_in : first_number body ≤ body.floor → (x : Row) → Contains (kept_rows body blocks batches) x → Contains (stored_rows blocks (first_number body) batches) x
  kept_in low x c = elim (Contains-append_cases (block_rows blocks) (record_rows body.floor (drop (body.floor - first_number body) batches)) x c) [
    | inl built ↦ Contains-append_left (block_rows blocks) (record_rows (first_number body) batches) x built
    | inr waits ↦ Contains-append_right (block_rows blocks) (record_rows (first_number body) batches) x
        (later_in (first_number body) (body.floor - first_number body) batches x
        (subst (λ (m : ℕ). Contains (record_rows m (drop (body.floor - first_number body) batches)) x) (let e : body.floor ≡ first_number body + (body.floor - first_number body) = omega (arith, low) in e) waits))
  ]

  -- what holds of all rows that are stored holds of those that count
  pub agrees_kept : first_number body ≤ body.floor → AgreesOn (stored_rows blocks (first_number body) batches) h
      → SameFirsts (stored_rows blocks (first_number body) batches) (kept_rows body blocks batches) → AgreesOn (kept_rows body blocks batches) h
  agrees_kept low agrees floored = record {
    firsts = λ k. sym (floored k) ∙ agrees.firsts k;
    one = λ x y hx hy e. agrees.one x y (kept_in low x hx) (kept_in low y hy) e;
    below = λ x hx. agrees.below x (kept_in low x hx);
  }

  -- and the other way
  pub agrees_whole : AgreesOn (kept_rows body blocks batches) h → SameFirsts (stored_rows blocks (first_number body) batches) (kept_rows body blocks batches)
      → OnePlace (stored_rows blocks (first_number body) batches) → count_of h ≡ first_number body + length batches
      → AgreesOn (stored_rows blocks (first_number body) batches) h
  agrees_whole agrees floored one counts = record {
    firsts = λ k. floored k ∙ agrees.firsts k;
    one = one;
    below = λ x hx. low x (Contains-append_cases (block_rows blocks) (record_rows (first_number body) batches) x hx);
  }
    where
      low : (x : Row) → Contains (block_rows blocks) x ⊎ Contains (record_rows (first_number body) batches) x → x.place.number < count_of h
      low x (inl built) = agrees.below x (Contains-append_left (block_rows blocks) (record_rows body.floor (drop (body.floor - first_number body) batches)) x built)
      low x (inr waits) = let e = below_end (first_number body) batches x waits in omega (arith, e, counts)

-- An image stands for a history with which all rows agree that it stores.
pub stands_with : (image : Image) (body : ListBody) (blocks : List Block) (batches : List (List Span)) (h : History) → StoreHolds image body blocks batches
    → AgreesOn (stored_rows blocks (first_number body) batches) h → count_of h ≡ first_number body + length batches → ImageStandsFor image h
stands_with image body blocks batches h st agrees counts = record {
  rows = kept_rows body blocks batches;
  stores = filled body blocks batches st agrees.one refl counts;
  agrees = agrees_kept body blocks batches h (rules_in image body st.listed).from_floor agrees st.floored;
}

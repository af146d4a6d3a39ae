-- Rows with those of a further push.
use Rattle.std.proofs.Common.{◌≡◌, ◌⊎◌, inl, inr, ℕ, ◌+◌, ◌-◌, ◌<◌, ◌≤◌, zero, suc, List, [], ◌∷◌, ◌++◌, length, drop, refl, sym, ◌∙◌, ap, subst, arith, append_assoc, length-drop, slice_index_or}
use Rattle.std.specs.List.{Contains}
use Rattle.std.proofs.lemmas.List.{drop-append-le}
use Rattle.std.proofs.lemmas.List.Elements.{Contains-append_cases}
use Rattle.span_types.specs.declared.spans.Span.{Span}
use Rattle.span_types.specs.declared.spans.Row.{Row}
use Rattle.span_types.specs.First.{first_at, lesser}
use Rattle.span_types.proofs.FirstLaws.{first_at-append}
use Rattle.store_model.specs.History.{History, batch_rows, record_rows, history_rows, count_of, pushed}
use Rattle.store_model.specs.Laws.{AgreesOn}
use Rattle.store_model.specs.State.{Block, block_rows}
use Rattle.store_model.proofs.HistoryLaws.{count_pushed, record_rows-more, grows, position_of}
use Rattle.store_model.proofs.KeepsFirsts.{number_in}
use Rattle.store_images.specs.Stored.{SameFirsts, stored_rows}

-- ---- rows that agree with a history, and those of its next push

position_in : (n : ℕ) (spans : List Span) (x : Row) (h : Contains (batch_rows n spans) x) → x.place.position ≡ 0 + h.0
position_in n spans x h = ap (λ r. r.place.position) (sym h.2) ∙ position_of n 0 spans h.0 x h.1

any_default : (xs : List Row) (i : ℕ) (d d' : Row) → i < length xs → slice_index_or xs i d ≡ slice_index_or xs i d'
any_default [] i d d' l = absurd (omega arith)
any_default (z ∷ zs) zero d d' l = refl
any_default (z ∷ zs) (suc i) d d' l = any_default zs i d d' (omega arith)

one_in_batch : (n : ℕ) (spans : List Span) (x y : Row) → Contains (batch_rows n spans) x → Contains (batch_rows n spans) y → x.place ≡ y.place → x ≡ y
one_in_batch n spans x y hx hy e =
    let i : hx.0 ≡ hy.0 = omega (arith, position_in n spans x hx, position_in n spans y hy, ap (λ p. p.position) e) in
    sym hx.2 ∙ ap (λ k. slice_index_or (batch_rows n spans) k x) i ∙ any_default (batch_rows n spans) hy.0 x y hy.1 ∙ hy.2

pub count_of-pushed : (h : History) (spans : List Span) → count_of (pushed h spans) ≡ count_of h + 1
count_of-pushed h spans = count_pushed h spans

pub agrees_grown : (rows : List Row) (h : History) (spans : List Span) → AgreesOn rows h → AgreesOn (rows ++ batch_rows (count_of h) spans) (pushed h spans)
agrees_grown rows h spans is = record {
  firsts = λ k. first_at-append k rows new ∙ ap (λ o. lesser o (first_at k new)) (is.firsts k) ∙ sym (first_at-append k (history_rows h) new) ∙ ap (first_at k) (sym (grows h spans));
  one = λ x y hx hy e. both x y e (Contains-append_cases rows new x hx) (Contains-append_cases rows new y hy);
  below = λ x hx. low x (Contains-append_cases rows new x hx);
}
  where
    new : List Row
    new = batch_rows (count_of h) spans

    low : (x : Row) → Contains rows x ⊎ Contains new x → x.place.number < count_of (pushed h spans)
    low x (inl l) = omega (arith, is.below x l, count_of-pushed h spans)
    low x (inr r) = omega (arith, number_in (count_of h) spans x r, count_of-pushed h spans)

    apart : (x y : Row) → Contains rows x → Contains new y → x.place ≡ y.place → ⊥
    apart x y hx hy e = omega (arith, is.below x hx, number_in (count_of h) spans y hy, ap (λ p. p.number) e)

    both : (x y : Row) → x.place ≡ y.place → Contains rows x ⊎ Contains new x → Contains rows y ⊎ Contains new y → x ≡ y
    both x y e (inl hx) (inl hy) = is.one x y hx hy e
    both x y e (inl hx) (inr hy) = absurd (apart x y hx hy e)
    both x y e (inr hx) (inl hy) = absurd (apart y x hy hx (sym e))
    both x y e (inr hx) (inr hy) = one_in_batch (count_of h) spans x y hx hy e

-- ---- stored rows

pub stored_more : (blocks : List Block) (first : ℕ) (batches : List (List Span)) (spans : List Span)
    → stored_rows blocks first (batches ++ spans ∷ []) ≡ stored_rows blocks first batches ++ batch_rows (first + length batches) spans
stored_more blocks first batches spans =
    ap (λ (r : List Row). block_rows blocks ++ r) (record_rows-more first batches spans)
    ∙ sym (append_assoc (block_rows blocks) (record_rows first batches) (batch_rows (first + length batches) spans))

same_joined : (a b c : List Row) → SameFirsts a b → SameFirsts (a ++ c) (b ++ c)
same_joined a b c same = λ k. first_at-append k a c ∙ ap (λ o. lesser o (first_at k c)) (same k) ∙ sym (first_at-append k b c)

-- the records below the floor bring no first occurrence, with a further record too
pub floored_more : (blocks : List Block) (first floor : ℕ) (batches : List (List Span)) (spans : List Span) → first ≤ floor → floor ≤ first + length batches
    → SameFirsts (stored_rows blocks first batches) (stored_rows blocks floor (drop (floor - first) batches))
    → SameFirsts (stored_rows blocks first (batches ++ spans ∷ [])) (stored_rows blocks floor (drop (floor - first) (batches ++ spans ∷ [])))
floored_more blocks first floor batches spans low high same =
    let gone = floor - first in
    let size : length (drop gone batches) ≡ length batches - gone = length-drop gone batches in
    let number : floor + length (drop gone batches) ≡ first + length batches = omega (arith, size, low, high) in
    let here = stored_more blocks first batches spans in
    let there : stored_rows blocks floor (drop gone (batches ++ spans ∷ [])) ≡ stored_rows blocks floor (drop gone batches) ++ batch_rows (first + length batches) spans =
    ap (stored_rows blocks floor) (drop-append-le gone batches (spans ∷ []) (omega (arith, low, high)))
    ∙ stored_more blocks floor (drop gone batches) spans
    ∙ ap (λ (n : ℕ). stored_rows blocks floor (drop gone batches) ++ batch_rows n spans) number in
    subst (λ (x : List Row). SameFirsts x (stored_rows blocks floor (drop gone (batches ++ spans ∷ [])))) (sym here)
    (subst (λ (x : List Row). SameFirsts (stored_rows blocks first batches ++ batch_rows (first + length batches) spans) x) (sym there)
    (same_joined (stored_rows blocks first batches) (stored_rows blocks floor (drop gone batches)) (batch_rows (first + length batches) spans) same))

-- The earliest and the latest start among rows, as loops find them.
use Rattle.std.proofs.Common.{◌≡◌, ◌⊎◌, inl, inr, ℕ, zero, suc, ◌+◌, ◌<◌, ◌≤◌, min, max, true, false, ltb, List, [], ◌∷◌, length, map, Contains, slice_index_or, refl, sym, ap, subst, ◌∙◌, arith}
use Rattle.std.proofs.lemmas.Bool.{ltb-false, ltb-true}
use Rattle.std.proofs.lemmas.List.{get_or-map, length-map}
use Rattle.std.proofs.lemmas.List.Elements.{recursion_from_All}
use Rattle.span_types.specs.declared.spans.Row.{Row}
use Rattle.block_format.specs.Blocks.{IsEarliest, IsLatest}

abbrev pub starts : List Row → List ℕ
starts rows = map (λ row. row.span.start) rows

-- the start of the row with that number
start_there : (rows : List Row) (i : ℕ) (row : Row) (start : ℕ) → i < length rows → row ≡ slice_index_or rows i row → start ≡ row.span.start → Contains (starts rows) start
start_there rows i row start low is same = (
  i,
  omega (arith, length-map rows (λ (row : Row). row.span.start), low),
  get_or-map (λ (row : Row). row.span.start) rows i row start low ∙ ap (λ (r : Row). r.span.start) (sym is) ∙ sym same,
)

either : (a b c : ℕ) → ((c ≡ a) ⊎ (c ≡ b)) → (rows : List Row) → Contains (starts rows) a → Contains (starts rows) b → Contains (starts rows) c
either a b c (inl e) rows one two = subst (Contains (starts rows)) (sym e) one
either a b c (inr e) rows one two = subst (Contains (starts rows)) (sym e) two

min_is : (a b : ℕ) → (min a b ≡ a) ⊎ (min a b ≡ b)
min_is a b =
    elim (ltb b a) as (λ t. ltb b a ≡ t → (min a b ≡ a) ⊎ (min a b ≡ b)) [
      | true ↦ λ e. let below = ltb-true b a e in inr (omega (arith, below))
      | false ↦ λ e. let above = ltb-false b a e in inl (omega (arith, above))
    ] refl

max_is : (a b : ℕ) → (max a b ≡ a) ⊎ (max a b ≡ b)
max_is a b =
    elim (ltb a b) as (λ t. ltb a b ≡ t → (max a b ≡ a) ⊎ (max a b ≡ b)) [
      | true ↦ λ e. let below = ltb-true a b e in inr (omega (arith, below))
      | false ↦ λ e. let above = ltb-false a b e in inl (omega (arith, above))
    ] refl

-- a row that is there is the same whatever stands for one that isn't
there_as : (rows : List Row) (i : ℕ) (d e : Row) → i < length rows → slice_index_or rows i d ≡ slice_index_or rows i e
there_as [] i d e low = absurd (omega (arith, low))
there_as (row ∷ rows) zero d e low = refl
there_as (row ∷ rows) (suc i) d e low = there_as rows i d e (omega (arith, low))

-- ---- earliest

-- a start, and none of the first rows is before it
pub record EarliestOf (rows : List Row) (count moment : ℕ) : Type 0 where
  pub there : Contains (starts rows) moment
  pub bound : (k : ℕ) (d : Row) → k < count → moment ≤ (slice_index_or rows k d).span.start

pub earliest_begins : (rows : List Row) (row : Row) (moment : ℕ) → 0 < length rows → row ≡ slice_index_or rows 0 row → moment ≡ row.span.start → EarliestOf rows 0 moment
earliest_begins rows row moment some is same = record { there = start_there rows 0 row moment some is same; bound = λ k d low. absurd (omega (arith, low)) }

pub earliest_more : (rows : List Row) (i moment new : ℕ) (row : Row) → i < length rows → row ≡ slice_index_or rows i row → new ≡ min moment row.span.start → EarliestOf rows i moment → EarliestOf rows (i + 1) new
earliest_more rows i moment new row low is new_is so_far = record {
  there = subst (Contains (starts rows)) (sym new_is) (either moment row.span.start (min moment row.span.start) (min_is moment row.span.start) rows so_far.there (start_there rows i row row.span.start low is refl));
  bound = λ k d below.
      elim (ltb k i) as (λ t. ltb k i ≡ t → new ≤ (slice_index_or rows k d).span.start) [
        | true ↦ λ e. let before = so_far.bound k d (ltb-true k i e) in omega (arith, before, new_is)
        | false ↦ λ e.
            let here : k ≡ i = (let above = ltb-false k i e in omega (arith, above, below)) in
            let same : slice_index_or rows k d ≡ row = ap (λ (j : ℕ). slice_index_or rows j d) here ∙ there_as rows i d row low ∙ sym is in
            let start : (slice_index_or rows k d).span.start ≡ row.span.start = ap (λ (r : Row). r.span.start) same in
            omega (arith, start, new_is)
      ] refl;
}

pub earliest_ends : (rows : List Row) (i moment : ℕ) → length rows ≤ i → EarliestOf rows i moment → IsEarliest rows moment
earliest_ends rows i moment all so_far = (so_far.there, recursion_from_All (λ row. moment ≤ row.span.start) rows (λ k d low. so_far.bound k d (omega (arith, all, low))))

-- ---- latest

-- a start, and none of the first rows is after it
pub record LatestOf (rows : List Row) (count moment : ℕ) : Type 0 where
  pub there : Contains (starts rows) moment
  pub bound : (k : ℕ) (d : Row) → k < count → (slice_index_or rows k d).span.start ≤ moment

pub latest_begins : (rows : List Row) (row : Row) (moment : ℕ) → 0 < length rows → row ≡ slice_index_or rows 0 row → moment ≡ row.span.start → LatestOf rows 0 moment
latest_begins rows row moment some is same = record { there = start_there rows 0 row moment some is same; bound = λ k d low. absurd (omega (arith, low)) }

pub latest_more : (rows : List Row) (i moment new : ℕ) (row : Row) → i < length rows → row ≡ slice_index_or rows i row → new ≡ max moment row.span.start → LatestOf rows i moment → LatestOf rows (i + 1) new
latest_more rows i moment new row low is new_is so_far = record {
  there = subst (Contains (starts rows)) (sym new_is) (either moment row.span.start (max moment row.span.start) (max_is moment row.span.start) rows so_far.there (start_there rows i row row.span.start low is refl));
  bound = λ k d below.
      elim (ltb k i) as (λ t. ltb k i ≡ t → (slice_index_or rows k d).span.start ≤ new) [
        | true ↦ λ e. let before = so_far.bound k d (ltb-true k i e) in omega (arith, before, new_is)
        | false ↦ λ e.
            let here : k ≡ i = (let above = ltb-false k i e in omega (arith, above, below)) in
            let same : slice_index_or rows k d ≡ row = ap (λ (j : ℕ). slice_index_or rows j d) here ∙ there_as rows i d row low ∙ sym is in
            let start : (slice_index_or rows k d).span.start ≡ row.span.start = ap (λ (r : Row). r.span.start) same in
            omega (arith, start, new_is)
      ] refl;
}

pub latest_ends : (rows : List Row) (i moment : ℕ) → length rows ≤ i → LatestOf rows i moment → IsLatest rows moment
latest_ends rows i moment all so_far = (so_far.there, recursion_from_All (λ row. row.span.start ≤ moment) rows (λ k d low. so_far.bound k d (omega (arith, all, low))))

-- Results that are cut keep their order: the first ones of cut results are those of the whole ones, cut.
use Rattle.std.proofs.Common.{◌≡◌, ℕ, ◌+◌, ◌<◌, List, [], ◌∷◌, false, Option, map, length, take, set, swap, get_or, slice_index_or, refl, sym, ◌∙◌, ap, ap₂, subst, arith}
use Rattle.std.specs.List.Sorted.{IsPermutation, IsSorted, SwapsInRange, apply_swaps}
use Rattle.std.specs.Ordering.{is_lt}
use Rattle.std.proofs.Math.ListN.{get_or-map as map_at}
use Rattle.std.proofs.lemmas.List.{get_or-map, length-map, map-set, take-map}
use Rattle.std.proofs.lemmas.List.Sorted.{IsPermutation-map}
use Rattle.spanset_eval.specs.declared.results.TraceResult.{TraceResult}
use Rattle.spanset_eval.specs.Outcomes.{cut}
use Rattle.spanset_eval.specs.Ranking.{AreFirst, rank_cmp}

map_swapped : {X Y : Type 0} (f : X → Y) (xs : List X) (i j : ℕ) → map f (swap xs i j) ≡ swap (map f xs) i j
map_swapped f [] i j = refl
map_swapped {X} {Y} f (x ∷ xs) i j =
    map-set f (set (x ∷ xs) i (get_or (x ∷ xs) j x)) j (get_or (x ∷ xs) i x)
    ∙ ap₂ (λ (l : List Y) (y : Y). set l j y)
    (map-set f (x ∷ xs) i (get_or (x ∷ xs) j x) ∙ ap (λ (y : Y). set (map f (x ∷ xs)) i y) (sym (map_at f (x ∷ xs) j x)))
    (sym (map_at f (x ∷ xs) i x))

-- What is a permutation of mapped elements is a permutation of the elements, mapped.
pub record Lifted {X Y : Type 0} (f : X → Y) (xs : List X) (ys : List Y) : Type 0 where
  pub all : List X
  pub same : IsPermutation xs all
  pub is : ys ≡ map f all

pub lifted : {X Y : Type 0} (f : X → Y) (xs : List X) (ys : List Y) → IsPermutation (map f xs) ys → Lifted f xs ys
lifted {X} {Y} f xs ys moved = record {
  all = apply_swaps xs moved.moves;
  same = record { moves = moved.moves; below = subst (λ n. SwapsInRange n moved.moves) (length-map xs f) moved.below; is = refl };
  is = moved.is ∙ swapped moved.moves;
}
  where
    swapped : (ps : List (ℕ × ℕ)) → apply_swaps (map f xs) ps ≡ map f (apply_swaps xs ps)
    swapped [] = refl
    swapped (p ∷ ps) = ap (λ (l : List Y). swap l p.0 p.1) (swapped ps) ∙ sym (map_swapped f (apply_swaps xs ps) p.0 p.1)

-- Whole results of which the first ones, cut, are these.
pub record Uncut (most : Option ℕ) (results : List TraceResult) (limit : ℕ) (kept : List TraceResult) : Type 0 where
  pub first : List TraceResult
  pub ranked : AreFirst results limit first
  pub is : kept ≡ map (cut most) first

module _ (most : Option ℕ) where
  at : (all : List TraceResult) (k : ℕ) (d : TraceResult) → k < length all → slice_index_or (map (cut most) all) k d ≡ cut most (slice_index_or all k d)
  at all k d low = get_or-map (cut most) all k d d low

  cut_sorted : (all : List TraceResult) → IsSorted rank_cmp all → IsSorted rank_cmp (map (cut most) all)
  cut_sorted all sorted = λ k d low high.
      let more : k + 1 < length all = omega (arith, high, length-map all (cut most)) in
      subst (λ z. is_lt (rank_cmp z (slice_index_or (map (cut most) all) k d)) ≡ false) (sym (at all (k + 1) d more))
      (subst (λ z. is_lt (rank_cmp (cut most (slice_index_or all (k + 1) d)) z) ≡ false) (sym (at all k d (omega (arith, more)))) (sorted k d low more))

  uncut_sorted : (all : List TraceResult) → IsSorted rank_cmp (map (cut most) all) → IsSorted rank_cmp all
  uncut_sorted all sorted = λ k d low high.
      subst (λ z. is_lt (rank_cmp (cut most (slice_index_or all (k + 1) d)) z) ≡ false) (at all k d (omega (arith, high)))
      (subst (λ z. is_lt (rank_cmp z (slice_index_or (map (cut most) all) k d)) ≡ false) (at all (k + 1) d high) (sorted k d low (omega (arith, high, length-map all (cut most)))))

  pub cut_first : (results : List TraceResult) (limit : ℕ) (first : List TraceResult) → AreFirst results limit first → AreFirst (map (cut most) results) limit (map (cut most) first)
  cut_first results limit first are = record {
    all = map (cut most) are.all;
    same = IsPermutation-map (cut most) results are.all are.same;
    sorted = cut_sorted are.all are.sorted;
    first_are = ap (map (cut most)) are.first_are ∙ sym (take-map (cut most) limit are.all);
  }

  pub uncut_first : (results : List TraceResult) (limit : ℕ) (kept : List TraceResult) → AreFirst (map (cut most) results) limit kept → Uncut most results limit kept
  uncut_first results limit kept are =
      let whole = lifted (cut most) results are.all are.same in record {
        first = take limit whole.all;
        ranked = record { all = whole.all; same = whole.same; sorted = uncut_sorted whole.all (subst (λ l. IsSorted rank_cmp l) whole.is are.sorted); first_are = refl };
        is = are.first_are ∙ ap (take limit) whole.is ∙ take-map (cut most) limit whole.all;
      }

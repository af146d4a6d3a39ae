-- Picks that wait, and those of them that are taken.
use Rattle.std.proofs.Common.{◌≡◌, ℕ, zero, suc, ◌+◌, ◌<◌, ◌≤◌, Bool, true, false, not, List, [], ◌∷◌, ◌++◌, All, Contains, append-nil, append_assoc, arith, ap, drop, filter, length, refl, slice_index_or, subst, sym, ◌∙◌}
use Rattle.std.specs.List.Sorted.{IsPermutation}
use Rattle.std.specs.declared.cmp.Ordering.TheVariants.{Less}
use Rattle.std.proofs.lemmas.Grind.{flat_map-append}
use Rattle.std.proofs.lemmas.List.{get_or-drop, get_or_default, length-drop}
use Rattle.std.proofs.lemmas.List.Elements.{All-append, All-filter, All-weaker, filter_passes}
use Rattle.std.proofs.lemmas.List.Kept.{AllPairs-filter}
use Rattle.std.proofs.lemmas.List.Sorted.{IsPermutation-append_comm, IsPermutation-append_left, IsPermutation-append_right, IsPermutation-trans}
use Rattle.span_types.specs.Orders.{trace_cmp}
use Rattle.column_scan.specs.Candidates.{Ascend, HaveLatest, IsCovered}
use Rattle.column_scan.specs.declared.picks.Pick.{Pick}
use Rattle.column_scan.proofs.Latest.{contains_filter}
use Rattle.query_fanout.specs.Rounds.{AreParted, all_waiting, is_below, waiting}
use Rattle.query_fanout.specs.declared.reach.Reach.{Reach}
use Rattle.query_fanout.specs.declared.waits.Batch.{Batch}
use Rattle.query_fanout.proofs.ReachLaws.{after_above}

-- ---- one batch

-- there is a pick at this place, above the bound
pub record IsAboveAt (bound : Reach) (picks : List Pick) (next : ℕ) : Type 0 where
  pub pick : Pick
  pub is : pick ≡ slice_index_or picks next pick
  pub above : is_below bound pick.trace ≡ false

pub rest_above : (bound : Reach) (picks : List Pick) (next : ℕ) → Ascend picks → (next < length picks → IsAboveAt bound picks next) → All (λ p. is_below bound p.trace ≡ false) (drop next picks)
rest_above bound picks next up first = λ k d low. subst (λ (p : Pick). is_below bound p.trace ≡ false) (sym (get_or-drop next picks k d)) (there k d (inside k low))
  where
    inside : (k : ℕ) → k < length (drop next picks) → next + k < length picks
    inside k low = let size = length-drop next picks in omega (arith, low, size)

    at_first : (d : Pick) → next < length picks → is_below bound (slice_index_or picks next d).trace ≡ false
    at_first d low =
        let one = first low in
        subst (λ (p : Pick). is_below bound p.trace ≡ false) (one.is ∙ get_or_default picks next one.pick d low) one.above

    there : (k : ℕ) (d : Pick) → next + k < length picks → is_below bound (slice_index_or picks (next + k) d).trace ≡ false
    there zero d low = subst (λ (n : ℕ). is_below bound (slice_index_or picks n d).trace ≡ false) (omega arith) (at_first d (omega (arith, low)))
    there (suc k) d low =
        after_above bound (slice_index_or picks next d).trace (slice_index_or picks (next + suc k) d).trace (up next (next + suc k) d (omega arith) low) (at_first d (omega (arith, low)))

-- ---- a batch of picks

abbrev IsAbove : Reach → Pick → Bool
IsAbove gone p = not (is_below gone p.trace)

not_below : (b : Bool) → not b ≡ true → b ≡ false
not_below true is = cc
not_below false is = refl

pub kept_whole : (gone : Reach) (picks all kept : List Pick) → HaveLatest picks all → kept ≡ filter (IsAbove gone) all → All (λ p. is_below gone p.trace ≡ false → IsCovered kept p) picks
kept_whole gone picks all kept have is = All-weaker (IsCovered all) (λ p. is_below gone p.trace ≡ false → IsCovered kept p) covers picks have.whole
  where
    covers : (p : Pick) → IsCovered all p → is_below gone p.trace ≡ false → IsCovered kept p
    covers p c above = (
      c.0,
      subst (λ (l : List Pick). Contains l c.0) (sym is) (contains_filter (IsAbove gone) all c.0 c.1 (ap (λ id. not (is_below gone id)) c.2 ∙ ap not above)),
      c.2,
      c.3,
    )

pub kept_only : (gone : Reach) (picks all kept : List Pick) → HaveLatest picks all → kept ≡ filter (IsAbove gone) all → All (Contains picks) kept
kept_only gone picks all kept have is = subst (All (Contains picks)) (sym is) (All-filter (IsAbove gone) (Contains picks) all have.only)

pub kept_above : (gone : Reach) (all kept : List Pick) → kept ≡ filter (IsAbove gone) all → All (λ p. is_below gone p.trace ≡ false) kept
kept_above gone all kept is =
    subst (All (λ p. is_below gone p.trace ≡ false)) (sym is)
    (All-weaker (λ p. IsAbove gone p ≡ true) (λ p. is_below gone p.trace ≡ false) (λ p above. not_below (is_below gone p.trace) above) (filter (IsAbove gone) all) (filter_passes (IsAbove gone) all))

pub kept_ascend : (gone : Reach) (all kept : List Pick) → Ascend all → kept ≡ filter (IsAbove gone) all → Ascend kept
kept_ascend gone all kept up is = subst Ascend (sym is) (AllPairs-filter (λ a b. trace_cmp a.trace b.trace ≡ Less) (IsAbove gone) all up)

-- ---- all batches

pub one_more_waits : (batches : List Batch) (batch : Batch) → all_waiting (batches ++ batch ∷ []) ≡ all_waiting batches ++ waiting batch
one_more_waits batches batch = flat_map-append waiting batches (batch ∷ []) ∙ ap (λ (l : List Pick). all_waiting batches ++ l) (append-nil (waiting batch))

pub parted_more : (bound : Reach) (all few left more taken rest : List Pick) → AreParted bound all few left → taken ++ rest ≡ few ++ more → All (λ p. is_below bound p.trace ≡ true) taken
    → All (λ p. is_below bound p.trace ≡ false) rest → AreParted bound (all ++ more) taken (left ++ rest)
parted_more bound all few left more taken rest so is taken_are rest_are = record {
  same = IsPermutation-trans (all ++ more) ((few ++ left) ++ more) (taken ++ (left ++ rest)) (IsPermutation-append_left more all (few ++ left) so.same) moved;
  few_are = taken_are;
  left_are = All-append (λ p. is_below bound p.trace ≡ false) left rest so.left_are rest_are;
}
  where
    begins : (few ++ more) ++ left ≡ taken ++ (rest ++ left)
    begins = ap (λ l. l ++ left) (sym is) ∙ append_assoc taken rest left

    first : IsPermutation (few ++ (left ++ more)) (few ++ (more ++ left))
    first = IsPermutation-append_right few (left ++ more) (more ++ left) (IsPermutation-append_comm left more)

    last : IsPermutation (taken ++ (rest ++ left)) (taken ++ (left ++ rest))
    last = IsPermutation-append_right taken (rest ++ left) (left ++ rest) (IsPermutation-append_comm rest left)

    moved : IsPermutation ((few ++ left) ++ more) (taken ++ (left ++ rest))
    moved = subst (λ l. IsPermutation l (taken ++ (left ++ rest))) (sym (append_assoc few left more))
        (IsPermutation-trans (few ++ (left ++ more)) (few ++ (more ++ left)) (taken ++ (left ++ rest)) first
        (subst (λ l. IsPermutation l (taken ++ (left ++ rest))) (sym begins ∙ append_assoc few more left) last))

pub none_left : (picks : List Pick) (next : ℕ) → length picks ≤ next → drop next picks ≡ []
none_left [] zero low = refl
none_left [] (suc n) low = refl
none_left (p ∷ ps) zero low = absurd (omega (arith, low))
none_left (p ∷ ps) (suc n) low = none_left ps n (omega (arith, low))

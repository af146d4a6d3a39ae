-- In which bucket a moment is.
use Rattle.std.proofs.Common.{◌≡◌, ℕ, ◌+◌, ◌-◌, ◌*◌, ◌/◌, ◌%◌, ◌<◌, ◌≤◌, ◌⊎◌, inl, inr, zero, suc, min, Bool, true, false, ◌&&◌, List, refl, sym, subst, ap, arith, ◌∙◌, length, take, slice_index_or}
use Rattle.std.specs.Prelude.{count_by, nat_le, nat_lt, slice_index, slice_set}
use Rattle.std.specs.Int.{div_ceil}
use Rattle.std.proofs.lemmas.Bool.{and_from, and_left, and_parts, and_right, cases_order, ltb-true, ltb-false, leb-true, leb-false, lt-ltb, le-ltb, le-leb, lt-leb}
use Rattle.std.proofs.lemmas.List.{get_or-set_same, get_or-set_other, length-set}
use Rattle.std.proofs.lemmas.List.Sums.{count_by_more_no, count_by_more_yes}
use Rattle.std.proofs.lemmas.Nat.{div-add-mod', div_below, mod_below}
use Rattle.std.proofs.Math.Nat.{mul-le-mul_right}
use Rattle.traceql_metrics.specs.Series.{bucket_count, is_in_bucket, is_between}

pub from_start : (start until m : ℕ) → is_between start until m ≡ true → start ≤ m
from_start start until m h = leb-true start m (and_parts (nat_le start m) (nat_lt m until) h).0

pub below_end : (start until m : ℕ) → is_between start until m ≡ true → m < until
below_end start until m h = ltb-true m until (and_parts (nat_le start m) (nat_lt m until) h).1

one_more : (n step : ℕ) → (n + 1) * step ≡ n * step + step
one_more n step = grind arith

-- the bucket of a moment by division
pub in_own : (start until step m i : ℕ) → 0 < step → is_between start until m ≡ true → i ≡ (m - start) / step → is_in_bucket start until step i m ≡ true
in_own start until step m i some h e =
    let lo = from_start start until m h in
    let hi = below_end start until m h in
    let parts : (m - start) / step * step + (m - start) % step ≡ m - start = div-add-mod' (m - start) step in
    let rest : (m - start) % step < step = mod_below (m - start) step some in
    let same : i * step ≡ (m - start) / step * step = ap (λ n. n * step) e in
    let next : (i + 1) * step ≡ i * step + step = one_more i step in
    and_from (nat_le (start + i * step) m) (nat_lt m (min (start + (i + 1) * step) until))
    (le-leb (start + i * step) m (omega (arith, lo, parts, same)))
    (lt-ltb m (min (start + (i + 1) * step) until) (omega (arith, lo, hi, parts, rest, same, next)))

in_former : (start until step m i q : ℕ) → start ≤ m → q * step ≤ m - start → i < q → is_in_bucket start until step i m ≡ false
in_former start until step m i q lo le lt =
    let much : (i + 1) * step ≤ q * step = mul-le-mul_right step (omega (arith, lt)) in
    and_right (nat_le (start + i * step) m) (nat_lt m (min (start + (i + 1) * step) until))
    (le-ltb m (min (start + (i + 1) * step) until) (omega (arith, lo, le, much)))

in_latter : (start until step m i q : ℕ) → start ≤ m → m - start < (q + 1) * step → q < i → is_in_bucket start until step i m ≡ false
in_latter start until step m i q lo lt less =
    let much : (q + 1) * step ≤ i * step = mul-le-mul_right step (omega (arith, less)) in
    and_left (nat_le (start + i * step) m) (nat_lt m (min (start + (i + 1) * step) until))
    (lt-leb (start + i * step) m (omega (arith, lo, lt, much)))

pub in_other : (start until step m i : ℕ) → 0 < step → is_between start until m ≡ true → (i < (m - start) / step) ⊎ ((m - start) / step < i) → is_in_bucket start until step i m ≡ false
in_other start until step m i some h (inl less) =
    let parts : (m - start) / step * step + (m - start) % step ≡ m - start = div-add-mod' (m - start) step in
    in_former start until step m i ((m - start) / step) (from_start start until m h) (omega (arith, parts)) less
in_other start until step m i some h (inr more) =
    let parts : (m - start) / step * step + (m - start) % step ≡ m - start = div-add-mod' (m - start) step in
    let rest : (m - start) % step < step = mod_below (m - start) step some in
    let next : ((m - start) / step + 1) * step ≡ (m - start) / step * step + step = one_more ((m - start) / step) step in
    in_latter start until step m i ((m - start) / step) (from_start start until m h) (omega (arith, parts, rest, next)) more

-- a moment outside of the range is in no bucket
pub in_none : (start until step i m : ℕ) → is_between start until m ≡ false → is_in_bucket start until step i m ≡ false
in_none start until step i m h = by_tests (nat_le start m) (nat_lt m until) refl refl h
  where
    by_tests : (a b : Bool) → nat_le start m ≡ a → nat_lt m until ≡ b → (a && b) ≡ false → is_in_bucket start until step i m ≡ false
    by_tests true true e f h = cc
    by_tests true false e f h =
        and_right (nat_le (start + i * step) m) (nat_lt m (min (start + (i + 1) * step) until))
        (le-ltb m (min (start + (i + 1) * step) until) (omega (arith, ltb-false m until f)))
    by_tests false b e f h =
        and_left (nat_le (start + i * step) m) (nat_lt m (min (start + (i + 1) * step) until))
        (lt-leb (start + i * step) m (omega (arith, leb-false start m e)))

-- the bucket of a moment is one of the buckets
pub bucket_within : (start until step m : ℕ) → 0 < step → is_between start until m ≡ true → (m - start) / step < bucket_count start until step
bucket_within start until step m some h =
    let lo = from_start start until m h in
    let hi = below_end start until m h in
    div_below (m - start) step (bucket_count start until step) some (omega (arith, lo, hi, covers (until - start) step some))
  where
    covers : (n step : ℕ) → 0 < step → n ≤ div_ceil n step * step
    covers n step some = by_rest (n % step) (div-add-mod' n step) (mod_below n step some)
      where
        by_rest : (r : ℕ) → n / step * step + r ≡ n → r < step → n ≤ (n / step + min 1 r) * step
        by_rest zero e l = let same : (n / step + 0) * step ≡ n / step * step = ap (λ k. k * step) (omega arith) in omega (arith, e, same)
        by_rest (suc r) e l =
            let same : (n / step + min 1 (suc r)) * step ≡ (n / step + 1) * step = ap (λ k. (n / step + k) * step) (omega arith) in
            let next : (n / step + 1) * step ≡ n / step * step + step = one_more (n / step) step in
            omega (arith, e, l, same, next)

-- all buckets, of which i has so many of these moments
abbrev pub AreCounts : ℕ → ℕ → ℕ → List ℕ → List ℕ → Type 0
AreCounts start until step ms counts = (i : ℕ) → i < length counts → slice_index counts i ≡ count_by (is_in_bucket start until step i) ms

-- one moment more, in a bucket
pub counted_more : (start until step : ℕ) (ms old new : List ℕ) (k b d : ℕ) → 0 < step → k < length ms → is_between start until (slice_index_or ms k d) ≡ true → b ≡ (slice_index_or ms k d - start) / step → b < length old →
    new ≡ slice_set old b (slice_index old b + 1) → AreCounts start until step (take k ms) old → AreCounts start until step (take (k + 1) ms) new
counted_more start until step ms old new k b d some l h is within e all = λ i less.
    subst (λ (xs : List ℕ). i < length xs → slice_index xs i ≡ count_by (is_in_bucket start until step i) (take (k + 1) ms)) (sym e) (λ less. by_place i (subst (λ n. i < n) (length-set old b (slice_index old b + 1)) less) (cases_order i b)) less
  where
    by_place : (i : ℕ) → i < length old → (i ≡ b) ⊎ ((i < b) ⊎ (b < i)) → slice_index (slice_set old b (slice_index old b + 1)) i ≡ count_by (is_in_bucket start until step i) (take (k + 1) ms)
    by_place i less (inl same) =
        ap (λ j. slice_index (slice_set old b (slice_index old b + 1)) j) same ∙ get_or-set_same old b (slice_index old b + 1) 0 within
        ∙ ap (λ j. slice_index old j + 1) (sym same) ∙ ap (λ n. n + 1) (all i less)
        ∙ sym (count_by_more_yes (is_in_bucket start until step i) ms k d l (in_own start until step (slice_index_or ms k d) i some h (same ∙ is)))
    by_place i less (inr (inl before)) =
        get_or-set_other old b i (slice_index old b + 1) 0 (λ same. omega (arith, before, same)) ∙ all i less
        ∙ sym (count_by_more_no (is_in_bucket start until step i) ms k d l (in_other start until step (slice_index_or ms k d) i some h (inl (omega (arith, before, is)))))
    by_place i less (inr (inr after)) =
        get_or-set_other old b i (slice_index old b + 1) 0 (λ same. omega (arith, after, same)) ∙ all i less
        ∙ sym (count_by_more_no (is_in_bucket start until step i) ms k d l (in_other start until step (slice_index_or ms k d) i some h (inr (omega (arith, after, is)))))

-- one moment more, outside of the range
pub passed_more : (start until step : ℕ) (ms counts : List ℕ) (k d : ℕ) → k < length ms → is_between start until (slice_index_or ms k d) ≡ false → AreCounts start until step (take k ms) counts → AreCounts start until step (take (k + 1) ms) counts
passed_more start until step ms counts k d l h all = λ i less.
    all i less ∙ sym (count_by_more_no (is_in_bucket start until step i) ms k d l (in_none start until step i (slice_index_or ms k d) h))

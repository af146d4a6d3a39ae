-- The series of all spansets, from those of spansets in order.
use Rattle.std.proofs.Common.{◌≡◌, ℕ, zero, suc, ◌<◌, Bool, true, false, List, [], ◌∷◌, ◌∙◌, refl, sym, subst, ap, arith, length, filter, map, slice_get, slice_index_or, Some, if◌then◌else◌}
use Rattle.std.specs.Prelude.{All, Any, Contains, count_by, slice_index, ⊤}
use Rattle.std.specs.List.{AllByRecursion, AllZip, dedup, flat_map, sum_by}
use Rattle.std.specs.List.Sorted.{IsPermutation, IsSortedByKey, IsStrictlySortedBy}
use Rattle.std.specs.declared.cmp.Ordering.TheVariants.{Equal}
use Rattle.std.proofs.lemmas.List.Elements.{All-contains_itself, All-filter, All-from_recursion, filter_passes, recursion_from_All}
use Rattle.std.proofs.lemmas.List.Filters.{All-dedup}
use Rattle.std.proofs.lemmas.List.Kept.{Any-dedup, IsStrictlySortedBy-dedup}
use Rattle.std.proofs.lemmas.List.Sorted.{All-permutation, Contains-permutation, sum_by-IsPermutation}
use Rattle.traceql_value.specs.declared.value.Value.{Value}
use Rattle.spanset_eval.specs.declared.results.SetResult.{SetResult}
use Rattle.spanset_eval.specs.declared.results.TraceResult.{TraceResult}
use Rattle.spanset_eval.specs.declared.series.Count.{Count}
use Rattle.spanset_eval.specs.declared.series.Series.{Series}
use Rattle.traceql_metrics.specs.Grouping.{by_of, same_values}
use Rattle.traceql_metrics.specs.Series.{begins_in, bucket_count, has_values, is_in_bucket, is_between, sets_of, starts_of, starts_under, values_cmp, AreSeries, IsCount, HasCounts}
use Rattle.traceql_metrics.proofs.Moments.{in_none}
use Rattle.traceql_metrics.proofs.Counts.{count_parts, none_counted, sum_of_kept}
use Rattle.traceql_metrics.proofs.Orders.{equals, keys_in_order, same_values_equiv, sets_total}
use Rattle.traceql_metrics.proofs.Zips.{any_map, zip_all, zip_at, zip_any, zip_length, zip_map}

-- the series of the spansets with the values of one of them
pub record IsSeriesOf (sets : List SetResult) (start until step : ℕ) (rate : Bool) (head : SetResult) (series : Series) : Type 0 where
  pub by : series.by ≡ head.by
  pub tells : HasCounts (starts_under head.by sets) start until step rate series.values

-- what passes is kept
kept : {X : Type 0} (p : X → Bool) (xs : List X) (x : X) (k : ℕ) → k < length xs → slice_index_or xs k x ≡ x → p x ≡ true → Contains (filter p xs) x
kept p [] x k l e t = absurd (omega (arith, l))
kept {X} p (y ∷ ys) x zero l e t = by_test (p y) (ap p e ∙ t)
  where
    by_test : (b : Bool) → b ≡ true → Contains (if b then y ∷ filter p ys else filter p ys) x
    by_test true h = (0, omega arith, e)
    by_test false h = absurd cc
kept {X} p (y ∷ ys) x (suc k) l e t = by_test (p y) (kept p ys x k (omega (arith, l)) e t)
  where
    by_test : (b : Bool) → Contains (filter p ys) x → Contains (if b then y ∷ filter p ys else filter p ys) x
    by_test true h = (suc h.0, omega (arith, h.1), h.2)
    by_test false h = h

-- how many spans of a spanset are in a bucket, if it has the values
abbrev weight : ℕ → ℕ → ℕ → ℕ → List Value → SetResult → ℕ
weight start until step i by set = if has_values by set then count_by (is_in_bucket start until step i) (starts_of set) else 0

weighs_none : (start until step i : ℕ) (by : List Value) (set : SetResult) → begins_in start until set ≡ false → weight start until step i by set ≡ 0
weighs_none start until step i by set h = by_test (has_values by set)
  where
    by_test : (b : Bool) → (if b then count_by (is_in_bucket start until step i) (starts_of set) else 0) ≡ 0
    by_test true = none_counted (is_in_bucket start until step i) (is_between start until) (starts_of set) (λ m out. in_none start until step i m out)
        (any_map (is_between start until) (λ hit. hit.start) set.spans ∙ h)
    by_test false = refl

-- spansets of which no span began in the range change no count, nor does the order of the others
same_count : (start until step i : ℕ) (by : List Value) (all sets : List SetResult) → IsPermutation (filter (begins_in start until) all) sets →
    count_by (is_in_bucket start until step i) (starts_under by sets) ≡ count_by (is_in_bucket start until step i) (starts_under by all)
same_count start until step i by all sets h =
    count_parts (is_in_bucket start until step i) (has_values by) starts_of sets
    ∙ sum_by-IsPermutation (weight start until step i by) (filter (begins_in start until) all) sets h
    ∙ sum_of_kept (weight start until step i by) (begins_in start until) all (λ set none. weighs_none start until step i by set none)
    ∙ sym (count_parts (is_in_bucket start until step i) (has_values by) starts_of all)

tells_same : (start until step : ℕ) (rate : Bool) (ms ns : List ℕ) (values : List Count) → ((i : ℕ) → count_by (is_in_bucket start until step i) ms ≡ count_by (is_in_bucket start until step i) ns) →
    HasCounts ms start until step rate values → HasCounts ns start until step rate values
tells_same start until step rate ms ns values e h = record {
  one_each = h.one_each;
  each = λ i told is. subst (λ n. IsCount rate step n told) (e i) (h.each i told is);
}

-- a spanset of which a span began in the range
abbrev IsFound : ℕ → ℕ → List SetResult → SetResult → Type 0
IsFound start until all set = Contains all set × (begins_in start until set ≡ true)

are_found : (start until : ℕ) (all sets : List SetResult) → IsPermutation (filter (begins_in start until) all) sets → All (IsFound start until all) (dedup same_values sets)
are_found start until all sets h =
    let listed = All-filter (begins_in start until) (Contains all) all (All-contains_itself all) in
    let begun = filter_passes (begins_in start until) all in
    All-dedup same_values (IsFound start until all) sets
    (All-permutation (IsFound start until all) (filter (begins_in start until) all) sets h (λ k d l. (listed k d l, begun k d l)))

some_found : (start until : ℕ) (all : List SetResult) (set : SetResult) (by : List Value) → by ≡ set.by → IsFound start until all set → Any (λ set. (begins_in start until set ≡ true) × (set.by ≡ by)) all
some_found start until all set by e h = (h.0.0, set, h.0.1, h.0.2, (h.1, sym e))

has_series : (start until step : ℕ) (rate : Bool) (all sets : List SetResult) (series : List Series) (set : SetResult) → IsPermutation (filter (begins_in start until) all) sets →
    AllZip (IsSeriesOf sets start until step rate) (dedup same_values sets) series → Contains all set → begins_in start until set ≡ true → Any (λ s. values_cmp set.by s.by ≡ Equal) series
has_series start until step rate all sets series set h zip listed begun =
    let one : Contains sets set = Contains-permutation (filter (begins_in start until) all) sets set h (kept (begins_in start until) all set listed.0 listed.1 listed.2 begun) in
    zip_any (IsSeriesOf sets start until step rate) (λ head. same_values set head ≡ true) (λ s. values_cmp set.by s.by ≡ Equal)
    (λ head s is same. ap (values_cmp set.by) is.by ∙ equals (values_cmp set.by head.by) same) (dedup same_values sets) series zip
    (Any-dedup same_values_equiv sets set one)

pub whole_series : (results : List TraceResult) (start until step : ℕ) (rate : Bool) (sets : List SetResult) (series : List Series) → IsPermutation (filter (begins_in start until) (sets_of results)) sets →
    IsSortedByKey by_of values_cmp sets → AllZip (IsSeriesOf sets start until step rate) (dedup same_values sets) series → AreSeries results start until step rate series
whole_series results start until step rate sets series h up zip =
    let all = sets_of results in
    let heads = dedup same_values sets in
    record {
      ascending =
          subst (λ keys. IsStrictlySortedBy values_cmp keys) (sym (zip_map (IsSeriesOf sets start until step rate) by_of (λ s. s.by) (λ head s is. is.by) heads series zip))
          (keys_in_order by_of values_cmp heads (IsStrictlySortedBy-dedup sets_total (λ x y. refl) sets up));
      only =
          All-from_recursion (λ s. Any (λ set. (begins_in start until set ≡ true) × (set.by ≡ s.by)) all) series
          (zip_all (IsSeriesOf sets start until step rate) (IsFound start until all) (λ s. Any (λ set. (begins_in start until set ≡ true) × (set.by ≡ s.by)) all)
          (λ head s is found. some_found start until all head s.by is.by found) heads series zip
          (recursion_from_All (IsFound start until all) heads (are_found start until all sets h)));
      whole = λ k d l begun. has_series start until step rate all sets series (slice_index_or all k d) h zip (All-contains_itself all k d l) begun;
      values =
          All-from_recursion (λ s. HasCounts (starts_under s.by all) start until step rate s.values) series
          (zip_all (IsSeriesOf sets start until step rate) (λ head. ⊤) (λ s. HasCounts (starts_under s.by all) start until step rate s.values)
          (λ head s is found. subst (λ by. HasCounts (starts_under by all) start until step rate s.values) (sym is.by)
          (tells_same start until step rate (starts_under head.by sets) (starts_under head.by all) s.values (λ i. same_count start until step i head.by all sets h) is.tells)) heads series zip
          (recursion_from_All (λ head. ⊤) heads (λ k d l. tt)));
    }

-- what tells the counts of the buckets
pub tells_from : (ms : List ℕ) (start until step : ℕ) (rate : Bool) (counts : List ℕ) (values : List Count) → length counts ≡ bucket_count start until step →
    ((i : ℕ) → i < length counts → slice_index counts i ≡ count_by (is_in_bucket start until step i) ms) → AllZip (IsCount rate step) counts values → HasCounts ms start until step rate values
tells_from ms start until step rate counts values size each zip = record {
  one_each = zip_length (IsCount rate step) counts values zip ∙ size;
  each = λ i told is.
      let pair = zip_at (IsCount rate step) 0 counts values i told zip is in
      subst (λ n. IsCount rate step n told) (each i pair.0) pair.1;
}

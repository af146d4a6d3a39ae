-- The series of a metrics query: what a search finds, counted by when its spans began.
use Rattle.std.specs.Prelude.{◌≡◌, ℕ, ◌+◌, ◌-◌, ◌*◌, ◌<◌, min, nat_le, nat_lt, ◌&&◌, Bool, true, false, List, map, filter, length, count_by, slice_get, Some, All, Any}
use Rattle.std.specs.Cmp.Lexicographic.{slice_cmp}
use Rattle.std.specs.Int.{div_ceil}
use Rattle.std.specs.List.{flat_map, list_any}
use Rattle.std.specs.List.Sorted.{IsStrictlySortedBy}
use Rattle.std.specs.Ordering.{is_eq}
use Rattle.std.specs.declared.cmp.Ordering.{Ordering}
use Rattle.std.specs.declared.cmp.Ordering.TheVariants.{Equal}
use Rattle.traceql_value.specs.Fractions.{AreCoprime}
use Rattle.traceql_value.specs.Values.{value_cmp}
use Rattle.traceql_value.specs.declared.value.Value.{Value}
use Rattle.spanset_eval.specs.declared.results.SetResult.{SetResult}
use Rattle.spanset_eval.specs.declared.results.TraceResult.{TraceResult}
use Rattle.spanset_eval.specs.declared.series.Count.{Count}
use Rattle.spanset_eval.specs.declared.series.Series.{Series}

-- ---- time

-- whether a moment is in the range
abbrev pub is_between : ℕ → ℕ → ℕ → Bool
is_between start until moment = nat_le start moment && nat_lt moment until

-- whether a moment is in bucket i, the last one of which ends with the range
abbrev pub is_in_bucket : ℕ → ℕ → ℕ → ℕ → ℕ → Bool
is_in_bucket start until step i moment = nat_le (start + i * step) moment && nat_lt moment (min (start + (i + 1) * step) until)

-- the most buckets that a query may ask for
abbrev pub most_buckets : ℕ
most_buckets = 1000

-- how many buckets cover the range
abbrev pub bucket_count : ℕ → ℕ → ℕ → ℕ
bucket_count start until step = div_ceil (until - start) step

-- ---- spansets

-- the order of lists of values, value by value
abbrev pub values_cmp : List Value → List Value → Ordering
values_cmp = slice_cmp value_cmp

-- all spansets that were found
abbrev pub sets_of : List TraceResult → List SetResult
sets_of results = flat_map (λ result. result.sets) results

-- when the spans of a spanset began
abbrev pub starts_of : SetResult → List ℕ
starts_of set = map (λ hit. hit.start) set.spans

-- whether one of its spans began in the range
abbrev pub begins_in : ℕ → ℕ → SetResult → Bool
begins_in start until set = list_any (λ hit. is_between start until hit.start) set.spans

-- whether a spanset has these values of `by`
abbrev pub has_values : List Value → SetResult → Bool
has_values by set = is_eq (values_cmp set.by by)

-- when the spans of the spansets with these values began
abbrev pub starts_under : List Value → List SetResult → List ℕ
starts_under by sets = flat_map starts_of (filter (has_values by) sets)

-- ---- what is told

-- so many in each step of so many nanoseconds, as a rate for a second in lowest terms
pub record IsRate (step n : ℕ) (told : Count) : Type 0 where
  pub equal : told.numerator * step ≡ n * 1000000000 * told.denominator
  pub above : 0 < told.denominator
  pub lowest : AreCoprime told.numerator told.denominator

-- what is told of a bucket of n spans: the number, or the rate
abbrev pub IsCount : Bool → ℕ → ℕ → Count → Type 0
IsCount false step n told = (told.numerator ≡ n) × (told.denominator ≡ 1)
IsCount true step n told = IsRate step n told

-- There is one value for each bucket, in order, which tells how many of the moments are in it.
pub record HasCounts (moments : List ℕ) (start until step : ℕ) (rate : Bool) (values : List Count) : Type 0 where
  pub one_each : length values ≡ bucket_count start until step
  pub each : (i : ℕ) (told : Count) → slice_get values i ≡ Some told → IsCount rate step (count_by (is_in_bucket start until step i) moments) told

-- The series of spansets over the buckets of a range: one for each list of values under which a span began in it.
pub record AreSeries (results : List TraceResult) (start until step : ℕ) (rate : Bool) (series : List Series) : Type 0 where
  pub ascending : IsStrictlySortedBy values_cmp (map (λ s. s.by) series)
  pub only : All (λ s. Any (λ set. (begins_in start until set ≡ true) × (set.by ≡ s.by)) (sets_of results)) series
  pub whole : All (λ set. begins_in start until set ≡ true → Any (λ s. values_cmp set.by s.by ≡ Equal) series) (sets_of results)
  pub values : All (λ s. HasCounts (starts_under s.by (sets_of results)) start until step rate s.values) series

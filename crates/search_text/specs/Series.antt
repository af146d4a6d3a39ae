-- The JSON of a metrics query's series, with each object's keys in ascending order.
use Rattle.std.specs.Prelude.{ℕ, ◌==◌, List, ◌++◌, codes, decimal, if◌then◌else◌}
use Rattle.serde_json.specs.Data.{Data, member, no_members, object, string}
use Rattle.serde_json.specs.Written.{compact_text}
use Rattle.spanset_eval.specs.declared.series.Count.{Count}
use Rattle.spanset_eval.specs.declared.series.Series.{Series}
use Rattle.search_text.specs.Results.{list_json, only, value_json}

-- a fraction that isn't negative: its numerator, a slash and its denominator
abbrev pub quotient_text : Count → List ℕ
quotient_text c = decimal c.numerator ++ (codes "/" ++ decimal c.denominator)

-- what is told of a bucket: a decimal text where it is whole, else a fraction
unfoldable pub count_json : Count → Data
count_json c = if c.denominator == 1 then only (codes "intValue") (string (decimal c.numerator)) else only (codes "ratioValue") (string (quotient_text c))

-- a series: the values that its spans have, and what is told of each bucket, the earliest first
unfoldable pub series_json : Series → Data
series_json s = object (
    member (codes "by") (list_json value_json s.by) (
    member (codes "values") (list_json count_json s.values) no_members))

-- all series, in the order in which they stand
unfoldable pub all_series_json : List Series → Data
all_series_json series = only (codes "series") (list_json series_json series)

-- the text of a metrics query's series
unfoldable pub series_text : List Series → List ℕ
series_text series = compact_text (all_series_json series)

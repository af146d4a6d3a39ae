-- No value that is written of series has a float.
use Rattle.std.proofs.Common.{◌≡◌, ℕ, false, List, ◌==◌, refl, ap, ◌∙◌}
use Rattle.serde_json.specs.Data.{Data}
use Rattle.serde_json.specs.Written.{compact_text, has_float}
use Rattle.spanset_eval.specs.declared.series.Count.{Count}
use Rattle.spanset_eval.specs.declared.series.Series.{Series}
use Rattle.search_text.specs.Results.{value_json}
use Rattle.search_text.specs.Series.{all_series_json, count_json, series_json, series_text}
use Rattle.search_text.proofs.Floats.{either, list_plain, value_plain}

count_plain : (c : Count) → has_float (count_json c) ≡ false
unfolding count_json
count_plain c = either (c.denominator == 1) _ _ refl refl

one_plain : (s : Series) → has_float (series_json s) ≡ false
unfolding series_json
one_plain s = rw (list_plain value_json value_plain s.by, list_plain count_json count_plain s.values) refl

all_plain : (series : List Series) → has_float (all_series_json series) ≡ false
unfolding all_series_json
all_plain series = rw (list_plain series_json one_plain series) refl

-- What is written for a value that is series is the series' text.
pub series_written : (series : List Series) (d : Data) (text : List ℕ) → d ≡ all_series_json series → (has_float d ≡ false → text ≡ compact_text d) → text ≡ series_text series
unfolding series_text
series_written series d text is printed = printed (ap has_float is ∙ all_plain series) ∙ ap compact_text is

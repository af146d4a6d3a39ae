-- Private mechanism. Spansets by their values of `by`.
use Rattle.std.specs.Prelude.{Bool, List}
use Rattle.std.specs.Ordering.{is_eq}
use Rattle.traceql_value.specs.declared.value.Value.{Value}
use Rattle.spanset_eval.specs.declared.results.SetResult.{SetResult}
use Rattle.traceql_metrics.specs.Series.{values_cmp}

abbrev pub by_of : SetResult → List Value
by_of set = set.by

abbrev pub same_values : SetResult → SetResult → Bool
same_values a b = is_eq (values_cmp a.by b.by)

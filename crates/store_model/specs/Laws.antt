-- What holds of a machine from step to step.
use Rattle.std.specs.Prelude.{◌≡◌, ◌<◌, List}
use Rattle.std.specs.List.{Contains}
use Rattle.span_types.specs.declared.ids.Key.{Key}
use Rattle.span_types.specs.declared.spans.Row.{Row}
use Rattle.span_types.specs.First.{first_at}
use Rattle.store_model.specs.History.{History, first_in, count_of}
use Rattle.store_model.specs.State.{state_rows}
use Rattle.store_model.specs.RowSets.{OnePlace}
use Rattle.store_model.specs.Step.{Machine}

-- The rows have the first occurrences of the history, a place names one row, and each row's number is below the count.
pub record AgreesOn (rows : List Row) (h : History) : Type 0 where
  pub firsts : (k : Key) → first_at k rows ≡ first_in k h
  pub one : OnePlace rows
  pub below : (x : Row) → Contains rows x → x.place.number < count_of h

abbrev pub Agrees : Machine → Type 0
Agrees m = AgreesOn (state_rows m.state) m.history

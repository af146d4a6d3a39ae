-- ---- for private clauses: rows in order of trace, gone over trace by trace
use Rattle.std.specs.Prelude.{◌≡◌, Bool, false, not, List, [], ◌∷◌, ◌++◌}
use Rattle.std.specs.Ordering.{is_eq}
use Rattle.std.specs.List.{AllByRecursion}
use Rattle.std.specs.List.Sorted.{IsSortedByKey}
use Rattle.span_types.specs.declared.spans.Row.{Row}
use Rattle.span_types.specs.First.{IsFirstOf}
use Rattle.span_types.specs.Orders.{trace_cmp}

-- no row's trace is below that of the row before it
abbrev pub AreByTrace : List Row → Type 0
AreByTrace rows = IsSortedByKey (λ row. row.span.trace) trace_cmp rows

-- whether a row is of another trace than these rows of one trace
abbrev pub begins_other : List Row → Row → Bool
begins_other [] row = false
begins_other (first ∷ others) row = not (is_eq (trace_cmp first.span.trace row.span.trace))

-- The first occurrences among the rows of a trace stand after the others.
pub record Settled (group before after : List Row) : Type 0 where
  pub firsts : List Row
  pub are_first : IsFirstOf group firsts
  pub added : after ≡ before ++ firsts

-- all rows are of one trace
abbrev pub AreOfOne : List Row → Type 0
AreOfOne [] = Unit {0}
AreOfOne (first ∷ others) = AllByRecursion (λ row. row.span.trace ≡ first.span.trace) others

-- The rows of a trace so far, and those that are still to be gone over: whatever first occurrences they have together come
-- after those that are found.
pub record GoneOver (rows group rest found : List Row) : Type 0 where
  pub sorted : AreByTrace (group ++ rest)
  pub of_one : AreOfOne group
  pub goes_on : (firsts : List Row) → IsFirstOf (group ++ rest) firsts → IsFirstOf rows (found ++ firsts)

-- What a search answers, over the first occurrences of all spans.
use Rattle.std.specs.Prelude.{◌≡◌, ◌≢◌, ℕ, List, [], ◌∷◌, Bool, true, Some, All, Contains, map}
use Rattle.std.specs.List.{list_any}
use Rattle.moment_range.specs.declared.range.Range.{Range}
use Rattle.moment_range.specs.Ranges.{is_within}
use Rattle.span_types.specs.declared.ids.TraceId.{TraceId}
use Rattle.span_types.specs.declared.spans.Row.{Row}
use Rattle.spanset_eval.specs.declared.results.TraceResult.{TraceResult}
use Rattle.spanset_eval.specs.Outcomes.{IsOutcome, cut}
use Rattle.spanset_eval.specs.Ranking.{AreFirst}
use Rattle.traceql_syntax.specs.Trees.{QueryTree, query_tree}
use Rattle.traceql_types.specs.declared.checked.Checked.{Checked}
use Rattle.traceql_types.specs.declared.pattern.Pattern.{Pattern}
use Rattle.rows_by_trace.specs.Traces.{rows_of_trace}
use Rattle.search_answer.specs.declared.bounds.Bounds.{Bounds}

-- A trace is in a range where one of its spans starts in it.
abbrev pub is_in_range : Range → List Row → Bool
is_in_range range rows = list_any (λ r. is_within range r.span.start) rows

-- What the query answers of a trace that is in the range, where it answers something. The rows are those of the trace.
pub record IsResult (ps : List Pattern) (q : QueryTree) (range : Range) (rows : List Row) (result : TraceResult) : Type 0 where
  pub within : is_in_range range rows ≡ true
  pub outcome : IsOutcome ps rows q (Some result)

-- No two results are of one trace.
abbrev pub NoneTwice : List TraceResult → Type 0
NoneTwice [] = Unit {0}
NoneTwice (r ∷ rs) = All (λ s. r.trace ≢ s.trace) rs × NoneTwice rs

-- One result for each trace in the range of which the query answers something, and no others.
pub record AreResults (ps : List Pattern) (q : QueryTree) (range : Range) (rows : List Row) (results : List TraceResult) : Type 0 where
  pub only : All (λ r. IsResult ps q range (rows_of_trace r.trace rows) r) results
  pub whole : (id : TraceId) (r : TraceResult) → IsResult ps q range (rows_of_trace id rows) r → Contains results r
  pub once : NoneTwice results

-- What a search shows: of all results the first ones, at most `limit`, and of each spanset the first spans, at most `most`.
-- `rows` are the first occurrences of all spans.
pub record IsAnswer (ps : List Pattern) (q : QueryTree) (range : Range) (limit most : ℕ) (rows : List Row) (answer : List TraceResult) : Type 0 where
  pub all : List TraceResult
  pub results : AreResults ps q range rows all
  pub first : List TraceResult
  pub ranked : AreFirst all limit first
  pub is : answer ≡ map (cut (Some most)) first

-- The same of a checked query, with the numbers by their names.
abbrev pub IsAnswerTo : Checked → Range → Bounds → List Row → List TraceResult → Type 0
IsAnswerTo checked range bounds rows answer =
    IsAnswer checked.patterns (query_tree checked.query) range bounds.limit bounds.spans_per_set rows answer

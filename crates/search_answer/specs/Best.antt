-- Which traces have to be looked at for the first results.
use Rattle.std.specs.Prelude.{◌≡◌, ℕ, List, ◌++◌, Bool, true, false, filter, length}
use Rattle.std.specs.List.{AllByRecursion}
use Rattle.std.specs.Ordering.{is_lt}
use Rattle.moment_range.specs.declared.range.Range.{Range}
use Rattle.rows_by_trace.specs.Traces.{rows_of_trace}
use Rattle.span_types.specs.First.{IsFirstOf}
use Rattle.span_types.specs.declared.ids.TraceId.{TraceId}
use Rattle.span_types.specs.declared.spans.Row.{Row}
use Rattle.spanset_eval.specs.declared.results.TraceResult.{TraceResult}
use Rattle.spanset_eval.specs.Ranking.{AreFirst, rank_cmp}
use Rattle.traceql_syntax.specs.Trees.{QueryTree}
use Rattle.traceql_types.specs.declared.pattern.Pattern.{Pattern}
use Rattle.search_answer.specs.Answers.{IsAnswer, IsResult}

-- none of these results goes before one of the best
abbrev pub NoneGoesBefore : List TraceResult → List TraceResult → Type 0
NoneGoesBefore best others = AllByRecursion (λ r. AllByRecursion (λ s. is_lt (rank_cmp s r) ≡ false) others) best

-- If the list of best results is full, others change it only if one of them goes before one of the best.
abbrev pub FirstStays : Type 0
FirstStays = (limit : ℕ) (results others best : List TraceResult)
    → AreFirst results limit best → length best ≡ limit → NoneGoesBefore best others → AreFirst (results ++ others) limit best

-- the rows of the picked traces
abbrev pub rows_of_picked : (TraceId → Bool) → List Row → List Row
rows_of_picked is_picked rows = filter (λ row. is_picked row.span.trace) rows

-- If each trace of which the query answers something is picked, the first occurrences of the picked traces' rows have the answer that
-- those of all rows have.
abbrev pub PickedAnswerTheWhole : Type 0
PickedAnswerTheWhole = (ps : List Pattern) (q : QueryTree) (range : Range) (limit most : ℕ) (rows firsts few : List Row) (is_picked : TraceId → Bool) (answer : List TraceResult)
    → IsFirstOf rows firsts → IsFirstOf (rows_of_picked is_picked rows) few
    → ((id : TraceId) (r : TraceResult) → IsResult ps q range (rows_of_trace id firsts) r → is_picked id ≡ true)
    → IsAnswer ps q range limit most few answer → IsAnswer ps q range limit most firsts answer

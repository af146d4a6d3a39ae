-- What a search answers.
use Rattle.std.specs.Prelude.{◌≡◌, ℕ, List}
use Rattle.span_types.specs.First.{IsFirstOf}
use Rattle.span_types.specs.declared.spans.Row.{Row}
use Rattle.search_answer.specs.Answers.{IsAnswer}
use Rattle.traceql_syntax.specs.Trees.{query_tree}
use Rattle.query_fanout.specs.declared.searching.Asked.{Asked}
use Rattle.query_fanout.specs.declared.searching.SearchAnswer.{SearchAnswer}

-- What the query finds among the first occurrences of all rows, as of that count.
pub record IsSearchAnswer (asked : Asked) (as_of : ℕ) (rows : List Row) (answer : SearchAnswer) : Type 0 where
  pub count : answer.as_of ≡ as_of
  pub firsts : List Row
  pub are_first : IsFirstOf rows firsts
  pub found : IsAnswer asked.checked.patterns (query_tree asked.checked.query) asked.range asked.limit asked.spans_per_set firsts answer.results

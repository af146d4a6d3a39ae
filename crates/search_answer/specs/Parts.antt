-- What a query answers of several traces, and how the answers of parts are joined.
use Rattle.std.specs.Prelude.{◌≡◌, ℕ, List, [], ◌∷◌, ◌++◌, Option, Some, map, take}
use Rattle.std.specs.Option.{option_to_list}
use Rattle.span_tree.specs.Nodes.{IsOneTrace}
use Rattle.span_types.specs.declared.spans.Row.{Row}
use Rattle.spanset_eval.specs.declared.results.TraceResult.{TraceResult}
use Rattle.spanset_eval.specs.Outcomes.{IsOutcome, cut}
use Rattle.spanset_eval.specs.Ranking.{AreFirst}
use Rattle.traceql_syntax.specs.Trees.{QueryTree}
use Rattle.traceql_types.specs.declared.pattern.Pattern.{Pattern}
use Rattle.search_answer.specs.declared.bounds.Bounds.{Bounds}

-- One result for each of these traces of which the query answers something, in their order. Each trace is its rows.
abbrev pub Answers : List Pattern → QueryTree → List (List Row) → List TraceResult → Type 0
Answers ps q [] results = results ≡ []
Answers ps q (rows ∷ traces) results =
    (outcome : Option TraceResult) × (more : List TraceResult) × IsOutcome ps rows q outcome
    × Answers ps q traces more × (results ≡ option_to_list outcome ++ more)

-- The first results of these traces, and of each spanset the first spans, as many as are shown at most.
pub record AreFirstAnswers (ps : List Pattern) (q : QueryTree) (bounds : Bounds) (traces : List (List Row)) (shown : List TraceResult) : Type 0 where
  pub all : List TraceResult
  pub answers : Answers ps q traces all
  pub are : shown ≡ map (cut (Some bounds.spans_per_set)) (take bounds.limit all)

-- ---- laws

-- Of each trace a query answers something or nothing.
abbrev pub EachIsAnswered : Type 0
EachIsAnswered = (ps : List Pattern) (q : QueryTree) (rows : List Row) → IsOneTrace rows
    → (outcome : Option TraceResult) × IsOutcome ps rows q outcome

-- It answers no two things of one trace.
abbrev pub OneAnswer : Type 0
OneAnswer = (ps : List Pattern) (rows : List Row) (q : QueryTree) (a b : Option TraceResult)
    → IsOutcome ps rows q a → IsOutcome ps rows q b → a ≡ b

-- What parts of a list of traces answer, joined, is what the list answers.
abbrev pub JoinedAnswers : Type 0
JoinedAnswers = (ps : List Pattern) (q : QueryTree) (xs ys : List (List Row)) (a b : List TraceResult)
    → Answers ps q xs a → Answers ps q ys b → Answers ps q (xs ++ ys) (a ++ b)

-- And what a list answers is what its parts answer, joined.
abbrev pub PartedAnswers : Type 0
PartedAnswers = (ps : List Pattern) (q : QueryTree) (xs ys : List (List Row)) (all : List TraceResult)
    → Answers ps q (xs ++ ys) all
    → (a : List TraceResult) × (b : List TraceResult) × Answers ps q xs a × Answers ps q ys b × (all ≡ a ++ b)

-- The first of two lists' first results are the first results of both lists.
abbrev pub FirstOfFirsts : Type 0
FirstOfFirsts = (limit : ℕ) (xs ys a b first : List TraceResult)
    → AreFirst xs limit a → AreFirst ys limit b → AreFirst (a ++ b) limit first
    → AreFirst (xs ++ ys) limit first

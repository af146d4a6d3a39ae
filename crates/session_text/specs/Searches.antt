-- What the line of a search or of a metrics query may be answered.
use Rattle.std.specs.Prelude.{◌≡◌, ◌≤◌, ◌⊎◌, ℕ, Bool, List, [], ◌∷◌, length, Result, Ok, Err}
use Rattle.traceql_syntax.specs.declared.errors.ParseError.{ParseError}
use Rattle.traceql_syntax.specs.declared.errors.ParseError.TheVariants as parse
use Rattle.span_types.specs.declared.limits.TheConstants.{MOST_QUERY_BYTES}
use Rattle.traceql_syntax.specs.Refusals.{DEPTH, IsMetricsRefusal, IsRefusal, Reads, ReadsMetrics}
use Rattle.traceql_syntax.specs.Trees.{MetricsTree, QueryTree, query_tree, run_query}
use Rattle.traceql_types.specs.declared.errors.TypeError.{TypeError}
use Rattle.traceql_types.specs.declared.errors.TypeError.TheVariants as type
use Rattle.traceql_types.specs.Checks.{Blames, ComesAfterMade, GoesFirst, HasCause}
use Rattle.session_text.specs.declared.refusal.KindFault.TheVariants as kind
use Rattle.session_text.specs.declared.refusal.QueryFault.TheVariants as query
use Rattle.session_text.specs.declared.refusal.Refusal.{Refusal}
use Rattle.session_text.specs.declared.refusal.Refusal.TheVariants.{BadQuery, BadType, BadPattern, PatternTooBig, Memory}
use Rattle.session_text.specs.declared.request.Metrics.{Metrics}
use Rattle.session_text.specs.declared.request.Search.{Search}
use Rattle.session_text.specs.MetricsLines.{MetricsLine}
use Rattle.session_text.specs.Options.{SearchLine}

-- the refusal of a text that is no query
abbrev pub of_parse : ParseError → Refusal
of_parse (parse.BadChar at) = BadQuery (query.BadChar at)
of_parse (parse.Unexpected at) = BadQuery (query.Unexpected at)
of_parse (parse.Unended at) = BadQuery (query.Unended at)
of_parse (parse.NumberRange at) = BadQuery (query.NumberRange at)
of_parse (parse.FractionLiteral at) = BadQuery (query.FractionLiteral at)
of_parse (parse.TooLong length) = BadQuery (query.TooLong length)
of_parse (parse.TooDeep at) = BadQuery (query.TooDeep at)
of_parse parse.Memory = Memory

-- the refusal of a query for its kinds or its patterns
abbrev pub of_check : TypeError → Refusal
of_check (type.KindClash at) = BadType (kind.KindClash at)
of_check (type.NotTruth at) = BadType (kind.NotTruth at)
of_check (type.DivisionInAggregate at) = BadType (kind.DivisionInAggregate at)
of_check (type.NotNumber at) = BadType (kind.NotNumber at)
of_check (type.BadPattern at) = BadPattern at
of_check (type.PatternTooBig at) = PatternTooBig at
of_check type.Memory = Memory

-- ---- queries that are refused

-- The text isn't in a language, and this is a right refusal of it: `IsRight` says which ones are. Out of memory is always a cause.
pub record IsNoQuery (IsRight : List ℕ → ParseError → Type 0) (text : List ℕ) (e : Refusal) : Type 0 where
  pub why : ParseError
  pub is : e ≡ of_parse why
  pub right : IsRight text why

-- The query's kinds don't fit or its patterns weren't all made, and this is the first refusal of it. `refused` are the texts that
-- the maker of patterns refused: that of the pattern which is blamed for its size, if one is.
pub record IsMisfit (tree : QueryTree) (refused : List (List ℕ)) (e : Refusal) : Type 0 where
  pub why : TypeError
  pub is : e ≡ of_check why
  pub cause : HasCause tree (λ text. refused ≡ text ∷ []) why
  pub first : GoesFirst tree why
  pub after_made : ComesAfterMade tree why
  pub blamed : Blames tree refused why

-- The text stands for a query that doesn't fit. `Runs` says which query is run for a text.
pub record DoesNotFit (Runs : List ℕ → QueryTree → Type 0) (text : List ℕ) (refused : List (List ℕ)) (e : Refusal) : Type 0 where
  pub tree : QueryTree
  pub query : Runs text tree
  pub misfit : IsMisfit tree refused e

-- Why no query is run for a text, where the maker of patterns refused these texts.
abbrev pub RunsNone : (List ℕ → QueryTree → Type 0) → (List ℕ → ParseError → Type 0) → List ℕ → List (List ℕ) → Refusal → Type 0
RunsNone Runs IsRight text refused e = (IsNoQuery IsRight text e × (refused ≡ [])) ⊎ DoesNotFit Runs text refused e

-- ---- a search

-- the text is this query, within the limits of a query
pub record IsQuery (text : List ℕ) (q : QueryTree) : Type 0 where
  pub short : length text ≤ MOST_QUERY_BYTES
  pub reads : Reads DEPTH text q

-- The search is the one that the line asks for. That its kinds fit and its patterns were made a `Checked` itself says.
pub record IsSearch (line : SearchLine) (s : Search) : Type 0 where
  pub query : IsQuery line.query (query_tree s.checked.query)
  pub range : s.range ≡ line.range
  pub limit : s.limit ≡ line.limit
  pub spans_per_set : s.spans_per_set ≡ line.spans_per_set

-- what a search's line may be answered, where the maker of patterns refused these texts
abbrev pub ReadsSearch : SearchLine → List (List ℕ) → Result Search Refusal → Type 0
ReadsSearch line refused (Ok s) = IsSearch line s × (refused ≡ [])
ReadsSearch line refused (Err e) = RunsNone IsQuery IsRefusal line.query refused e

-- ---- a metrics query

-- the text is this metrics query, within the limits of a query
pub record IsMetricsQuery (text : List ℕ) (m : MetricsTree) : Type 0 where
  pub short : length text ≤ MOST_QUERY_BYTES
  pub reads : ReadsMetrics DEPTH text m

-- This query is run for the text of a metrics query, which asks for a rate or not: its own query, with the stage `by` after it if
-- its spans are split.
pub record IsRun (text : List ℕ) (rate : Bool) (q : QueryTree) : Type 0 where
  pub asked : MetricsTree
  pub query : IsMetricsQuery text asked
  pub told : rate ≡ asked.rate
  pub run : q ≡ run_query asked.query asked.by

abbrev pub IsRunFor : List ℕ → QueryTree → Type 0
IsRunFor text q = (rate : Bool) × IsRun text rate q

-- This is asked that the line asks for. That the query's kinds fit and its patterns were made a `Checked` itself says.
pub record IsMetrics (line : MetricsLine) (m : Metrics) : Type 0 where
  pub query : IsRun line.query m.rate (query_tree m.checked.query)
  pub start : m.start ≡ line.start
  pub end : m.end ≡ line.end
  pub step : m.step ≡ line.step

-- what a metrics query's line may be answered, where the maker of patterns refused these texts
abbrev pub MeasuresLine : MetricsLine → List (List ℕ) → Result Metrics Refusal → Type 0
MeasuresLine line refused (Ok m) = IsMetrics line m × (refused ≡ [])
MeasuresLine line refused (Err e) = RunsNone IsRunFor IsMetricsRefusal line.query refused e

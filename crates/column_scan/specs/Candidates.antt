-- The traces that a search has to look at.
use Rattle.std.specs.Prelude.{◌≡◌, ℕ, ◌≤◌, List, map, filter, Bool, Option, None, Some, All, Contains}
use Rattle.std.specs.List.{AllPairs}
use Rattle.std.specs.declared.cmp.Ordering.TheVariants.{Less}
use Rattle.moment_range.specs.declared.range.Range.{Range}
use Rattle.moment_range.specs.Ranges.{is_within}
use Rattle.span_types.specs.Orders.{trace_cmp}
use Rattle.span_types.specs.declared.ids.TraceId.{TraceId}
use Rattle.span_types.specs.declared.spans.Row.{Row}
use Rattle.span_types.specs.declared.spans.Span.{Span}
use Rattle.traceql_syntax.specs.Trees.{QueryTree}
use Rattle.column_scan.specs.declared.hints.Hint.{Hint}
use Rattle.column_scan.specs.declared.picks.Pick.{Pick}
use Rattle.column_scan.specs.Hints.{holds_text, query_text}

-- ---- hinted spans

abbrev pub hinted_by : Option (List ℕ) → Range → Span → Bool
hinted_by None range s = is_within range s.start
hinted_by (Some text) range s = holds_text text s

-- A span is hinted: it holds the text or, if there is none, starts in the range.
abbrev pub is_hinted : Hint → Span → Bool
is_hinted hint s = hinted_by hint.text hint.range s

abbrev pub hint_of : QueryTree → Range → Hint
hint_of q range = record { range = range; text = query_text q }

-- ---- picks

abbrev pub pick_of : Span → Pick
pick_of s = record { trace = s.trace; latest = s.start }

-- what each hinted span picks
abbrev pub hinted_picks : Hint → List Span → List Pick
hinted_picks hint spans = map pick_of (filter (is_hinted hint) spans)

abbrev pub spans_of : List Row → List Span
spans_of rows = map (λ row. row.span) rows

-- one of the picks is of the same trace, and isn't earlier
abbrev pub IsCovered : List Pick → Pick → Type 0
IsCovered picks p = (q : Pick) × Contains picks q × (q.trace ≡ p.trace) × (p.latest ≤ q.latest)

-- Some of these picks, among them the latest one of each trace.
pub record HaveLatest (all picks : List Pick) : Type 0 where
  pub whole : All (IsCovered picks) all
  pub only : All (Contains all) picks

-- each once, in ascending order
abbrev pub Ascend : List Pick → Type 0
Ascend picks = AllPairs (λ p q. trace_cmp p.trace q.trace ≡ Less) picks

-- Each trace that has a hinted span, once, in ascending order, with the latest start among its hinted spans.
pub record ArePicks (hint : Hint) (spans : List Span) (picks : List Pick) : Type 0 where
  pub latest : HaveLatest (hinted_picks hint spans) picks
  pub ascending : Ascend picks

-- the ids of exactly those traces, each once, in ascending order
abbrev pub AreCandidates : Hint → List Span → List TraceId → Type 0
AreCandidates hint spans ids = (picks : List Pick) × ArePicks hint spans picks × (ids ≡ map (λ p. p.trace) picks)

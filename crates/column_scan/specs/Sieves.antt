-- What a query's filter asks of a span's kind, its status, its start and its end: columns of a fixed width, which are read without the
-- rows. If one filter is all that spans are selected by, a span of which such a part of it isn't so is not kept by it.
use Rattle.std.specs.Prelude.{List, [], ◌∷◌, ◌++◌, Bool, true, false, ◌&&◌, ◌||◌, ◌==◌, ◌≡◌, ◌≤◌, Contains, Option, None, Some, filter, is_none, is_some, map, if◌then◌else◌}
use Rattle.std.specs.List.{list_all}
use Rattle.moment_range.specs.declared.range.Range.{Range}
use Rattle.rows_by_trace.specs.Traces.{rows_of_trace}
use Rattle.span_types.specs.First.{IsFirstOf}
use Rattle.span_types.specs.declared.ids.TraceId.{TraceId}
use Rattle.span_types.specs.declared.spans.Row.{Row}
use Rattle.span_types.specs.declared.spans.Span.{Span}
use Rattle.spanset_eval.specs.declared.results.TraceResult.{TraceResult}
use Rattle.search_answer.specs.Answers.{IsResult}
use Rattle.traceql_tokens.specs.declared.fixed.Intrinsic.TheVariants as intrinsic
use Rattle.traceql_syntax.specs.declared.field.Field.{Field}
use Rattle.traceql_syntax.specs.declared.field.Field.TheVariants as field
use Rattle.traceql_syntax.specs.Trees.{Placed, Tree, Literally, Asks, Unary, Binary, Match, SetTree, Filter, Join, QueryTree}
use Rattle.traceql_types.specs.declared.pattern.Pattern.{Pattern}
use Rattle.traceql_value.specs.Meaning.{is_so}
use Rattle.column_scan.specs.declared.hints.Hint.{Hint}
use Rattle.column_scan.specs.declared.picks.Pick.{Pick}
use Rattle.column_scan.specs.Hints.{is_conjunction}
use Rattle.column_scan.specs.Candidates.{Ascend, HaveLatest, hint_of, is_hinted, pick_of, spans_of}

-- ---- what a filter asks of columns

-- the field is one of these columns, or how long the span took
abbrev pub is_column : Field → Bool
is_column (field.Intrinsic intrinsic.Status) = true
is_column (field.Intrinsic intrinsic.SpanStatus) = true
is_column (field.Intrinsic intrinsic.Kind) = true
is_column (field.Intrinsic intrinsic.SpanKind) = true
is_column (field.Intrinsic intrinsic.Duration) = true
is_column (field.Intrinsic intrinsic.SpanDuration) = true
is_column _ = false

-- the expression asks for no other field
abbrev pub reads_columns : Tree → Bool
reads_columns (Literally at l) = true
reads_columns (Asks at f) = is_column f
reads_columns (Unary at op first e) = reads_columns e
reads_columns (Binary at op first a second b) = reads_columns a && reads_columns b
reads_columns (Match at negated first e pattern_at pattern) = reads_columns e

abbrev pub if_columns : Tree → List Tree
if_columns e = if reads_columns e then e ∷ [] else []

-- the members of a chain of `&&` that ask for no other field
abbrev pub column_members : Tree → List Tree
column_members (Binary at op first a second b) = if is_conjunction op then column_members a ++ if_columns b else if_columns (Binary at op first a second b)
column_members e = if_columns e

abbrev pub filter_members : Option Placed → List Tree
filter_members None = []
filter_members (Some e) = column_members e.1

-- only where one filter is all that spans are selected by
abbrev pub set_members : SetTree → List Tree
set_members (Filter at condition) = filter_members condition
set_members (Join at op a b) = []

-- each moment is in the range
abbrev pub has_all_moments : Range → Bool
has_all_moments range = (range.from == 0) && is_none range.until

-- The span that a filter keeps is one of those that the hint asks for: each holds the text or, if there is none, starts in the range.
-- Without a text and with moments out of the range it needn't be the one that starts in the range.
abbrev pub hints_the_kept : Hint → Bool
hints_the_kept hint = is_some hint.text || has_all_moments hint.range

-- ---- sieves

-- A hint, and conditions that the hinted span meets as well.
pub record SieveParts : Type 0 where
  pub hint : Hint
  pub patterns : List Pattern
  pub members : List Tree

-- the sieve of a hint alone
abbrev pub only_hint : Hint → SieveParts
only_hint hint = record { hint = hint; patterns = []; members = [] }

-- what a query asks for under its patterns
abbrev pub sieve_of : List Pattern → QueryTree → Range → SieveParts
sieve_of ps q range = record {
  hint = hint_of q range;
  patterns = ps;
  members = if hints_the_kept (hint_of q range) then set_members q.spansets else [];
}

-- The conditions are so of the span. They ask for no other span, so no rows of its trace are given.
abbrev pub meets_members : SieveParts → Span → Bool
meets_members sieve s = list_all (λ e. is_so sieve.patterns [] s e) sieve.members

-- A span is sifted: it is hinted, and the conditions are so of it.
abbrev pub is_sifted : SieveParts → Span → Bool
is_sifted sieve s = meets_members sieve s && is_hinted sieve.hint s

-- ---- picks

-- what each sifted span picks
abbrev pub sifted_picks : SieveParts → List Span → List Pick
sifted_picks sieve spans = map pick_of (filter (is_sifted sieve) spans)

-- Each trace that has a sifted span, once, in ascending order, with the latest start among its sifted spans.
pub record AreSifted (sieve : SieveParts) (spans : List Span) (picks : List Pick) : Type 0 where
  pub latest : HaveLatest (sifted_picks sieve spans) picks
  pub ascending : Ascend picks

-- ---- laws

-- Whatever a query answers of first occurrences, its trace is picked among all rows, and doesn't start after the pick's moment.
abbrev pub AnsweredIsPicked : Type 0
AnsweredIsPicked = (ps : List Pattern) (q : QueryTree) (range : Range) (rows firsts : List Row) (picks : List Pick) (id : TraceId) (r : TraceResult)
    → IsFirstOf rows firsts → HaveLatest (sifted_picks (sieve_of ps q range) (spans_of rows)) picks
    → IsResult ps q range (rows_of_trace id firsts) r
    → (p : Pick) × Contains picks p × (p.trace ≡ id) × (r.start ≤ p.latest)

-- Both spans have the same kind and status, and start and end together.
pub record SameColumns (a b : Span) : Type 0 where
  pub kind : a.kind ≡ b.kind
  pub status : a.status ≡ b.status
  pub start : a.start ≡ b.start
  pub ended : a.«end» ≡ b.«end»

-- What asks for columns alone is the same for spans whose columns are the same, in whatever traces they are.
abbrev pub ColumnsTell : Type 0
ColumnsTell = (ps : List Pattern) (s t : Span) (e : Tree) → reads_columns e ≡ true → SameColumns s t
    → is_so ps [] s e ≡ is_so ps [] t e

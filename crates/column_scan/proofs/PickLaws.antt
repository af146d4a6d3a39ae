-- What is answered is picked.
use Rattle.std.proofs.Common.{◌≡◌, ◌==◌, ◌||◌, ℕ, zero, suc, ◌<◌, ◌≤◌, Bool, true, false, if◌then◌else◌, List, [], ◌∷◌, length, Option, None, Some, filter, refl, sym, ◌∙◌, ap, arith, slice_index_or, Contains}
use Rattle.std.specs.List.{list_all, list_any}
use Rattle.std.specs.Prelude.{is_none, is_some}
use Rattle.std.proofs.lemmas.Bool.{eqb-true, le-leb}
use Rattle.std.specs.Ordering.{is_eq}
use Rattle.std.proofs.lemmas.List.Elements.{All-contains}
use Rattle.moment_range.specs.Ranges.{is_before, is_within}
use Rattle.moment_range.specs.declared.range.Range.{Range}
use Rattle.rows_by_trace.specs.Traces.{is_of_trace, rows_of_trace}
use Rattle.span_types.specs.First.{IsFirstOf, first_at, lesser, row_at}
use Rattle.span_types.specs.Keys.{row_key}
use Rattle.span_types.specs.Orders.{key_cmp, place_cmp}
use Rattle.std.specs.Ordering.{is_lt}
use Rattle.span_types.specs.declared.ids.Key.{Key}
use Rattle.span_types.specs.declared.ids.TraceId.{TraceId}
use Rattle.span_types.specs.declared.spans.Row.{Row}
use Rattle.span_types.specs.declared.spans.Span.{Span}
use Rattle.spanset_eval.specs.Outcomes.{IsOutcome, shown}
use Rattle.spanset_eval.specs.Sets.{filter_span}
use Rattle.spanset_eval.specs.Stages.{remaining, selected_fields}
use Rattle.spanset_eval.specs.declared.groups.Group.{Group}
use Rattle.spanset_eval.specs.declared.results.TraceResult.{TraceResult}
use Rattle.traceql_syntax.specs.Trees.{Filter, Join, Placed, QueryTree, SetTree, Tree}
use Rattle.traceql_types.specs.declared.pattern.Pattern.{Pattern}
use Rattle.traceql_value.specs.Meaning.{is_so}
use Rattle.traceql_value.specs.Spans.{earliest, latest, start_of}
use Rattle.search_answer.proofs.Fronts.{same_trace}
use Rattle.search_answer.specs.Answers.{IsResult}
use Rattle.column_scan.proofs.ColumnLaws.{members_so}
use Rattle.column_scan.proofs.HintLaws.{and_left, and_right, answer_holds, answer_kept, kept_holds, there_any}
use Rattle.column_scan.specs.Candidates.{IsCovered, hint_of, hinted_by, pick_of, spans_of}
use Rattle.column_scan.specs.Hints.{filter_text, query_text, set_text}
use Rattle.column_scan.specs.Sieves.{AnsweredIsPicked, SieveParts, filter_members, has_all_moments, hints_the_kept, is_sifted, set_members, sieve_of, sifted_picks}
use Rattle.column_scan.specs.declared.hints.Hint.{Hint}
use Rattle.column_scan.proofs.Latest.{contains_filter, contains_map}

-- ---- lists

record There (p : Row → Bool) (rows : List Row) : Type 0 where
  row : Row
  member : Contains rows row
  passes : p row ≡ true

later_there : (p : Row → Bool) (x : Row) (rows : List Row) → There p rows → There p (x ∷ rows)
later_there p x rows t = record { row = t.row; member = (suc t.member.0, omega (arith, t.member.1), t.member.2); passes = t.passes }

there : (p : Row → Bool) (rows : List Row) → list_any p rows ≡ true → There p rows
there p [] is = cc
there p (x ∷ rows) is = (elim (p x) as (λ b. p x ≡ b → There p (x ∷ rows)) [
  | true ↦ λ t. record { row = x; member = (0, omega arith, refl); passes = t }
  | false ↦ λ t. later_there p x rows (there p rows (rw t at is))
]) refl

-- what a filter kept
record Kept (p : Row → Bool) (rows : List Row) (row : Row) : Type 0 where
  member : Contains rows row
  passes : p row ≡ true

later_kept : (p : Row → Bool) (x : Row) (rows : List Row) (row : Row) → Kept p rows row → Kept p (x ∷ rows) row
later_kept p x rows row k = record { member = (suc k.member.0, omega (arith, k.member.1), k.member.2); passes = k.passes }

kept : (p : Row → Bool) (rows : List Row) (row : Row) (k : ℕ) → k < length (filter p rows) → slice_index_or (filter p rows) k row ≡ row → Kept p rows row
kept p [] row k low is = absurd (omega (arith, low))
kept p (x ∷ rows) row k low is = (elim (p x) as (λ b. p x ≡ b → Kept p (x ∷ rows) row) [
  | true ↦ λ t. here t k (λ j low is. kept p rows row j low is) (rw t at low) (rw t at is)
  | false ↦ λ t. later_kept p x rows row (kept p rows row k (rw t at low) (rw t at is))
]) refl
  where
    here : p x ≡ true → (k : ℕ) → ((j : ℕ) → j < length (filter p rows) → slice_index_or (filter p rows) j row ≡ row → Kept p rows row)
        → k < length (x ∷ filter p rows) → slice_index_or (x ∷ filter p rows) k row ≡ row → Kept p (x ∷ rows) row
    here t zero rest low is = record { member = (0, omega arith, is); passes = ap p (sym is) ∙ t }
    here t (suc k) rest low is = later_kept p x rows row (rest k (omega (arith, low)) is)

-- ---- first occurrences are rows

at_is : (k : Key) (x r : Row) → row_at k x ≡ Some r → x ≡ r
at_is k x r is = (elim (is_eq (key_cmp (row_key x) k)) as (λ b. is_eq (key_cmp (row_key x) k) ≡ b → x ≡ r) [
  | true ↦ λ t. let one : Some x ≡ Some r = rw t at is in cc
  | false ↦ λ t. let none : None ≡ Some r = rw t at is in cc
]) refl

either : (a b : Option Row) (r : Row) → lesser a b ≡ Some r → (P : Type 0) → (a ≡ Some r → P) → (b ≡ Some r → P) → P
either None b r is P one two = two is
either (Some a) None r is P one two = one is
either (Some a) (Some b) r is P one two = (elim (is_lt (place_cmp b.place a.place)) as (λ t. is_lt (place_cmp b.place a.place) ≡ t → P) [
  | true ↦ λ t. two (rw t at is)
  | false ↦ λ t. one (rw t at is)
]) refl

first_is_row : (k : Key) (rows : List Row) (r : Row) → first_at k rows ≡ Some r → Contains rows r
first_is_row k [] r is = cc
first_is_row k (x ∷ rows) r is = either (row_at k x) (first_at k rows) r is (Contains (x ∷ rows) r)
    (λ one. (0, omega arith, at_is k x r one))
    (λ two. let m = first_is_row k rows r two in (suc m.0, omega (arith, m.1), m.2))

-- ---- when a trace starts

known_bounds : (known : ℕ) (rows : List Row) → earliest known rows ≤ known
known_bounds known [] = omega arith
known_bounds known (x ∷ rows) = let rest = known_bounds known rows in omega (arith, rest)

earliest_bounds : (known : ℕ) (rows : List Row) (row : Row) (k : ℕ) → k < length rows → slice_index_or rows k row ≡ row → earliest known rows ≤ row.span.start
earliest_bounds known [] row k low is = absurd (omega (arith, low))
earliest_bounds known (x ∷ rows) row zero low is = let same : x.span.start ≡ row.span.start = ap (λ (r : Row). r.span.start) is in omega (arith, same)
earliest_bounds known (x ∷ rows) row (suc k) low is = let rest = earliest_bounds known rows row k (omega (arith, low)) is in omega (arith, rest)

result_starts : (ps : List Pattern) (q : QueryTree) (rows : List Row) (r : TraceResult) → IsOutcome ps rows q (Some r) → r.start ≡ start_of rows
result_starts ps q [] r outcome = let bad : Some r ≡ None = outcome.is in cc
result_starts ps q (x ∷ rows) r outcome = at (remaining ps (x ∷ rows) q.stages outcome.selected) outcome.is
  where
    at : (groups : List Group) → Some r ≡ shown (selected_fields q.stages) (x ∷ rows) groups → r.start ≡ start_of (x ∷ rows)
    at [] is = cc
    at (g ∷ groups) is = let same = unwrapped r _ is in ap (λ (s : TraceResult). s.start) same
      where
        unwrapped : (a b : TraceResult) → Some a ≡ Some b → a ≡ b
        unwrapped a b h = cc

-- ---- the law

hinted : (ps : List Pattern) (q : QueryTree) (range : Range) (rows : List Row) (r : TraceResult) → IsResult ps q range rows r
    → list_any (λ row. hinted_by (query_text q) range row.span) rows ≡ true
hinted ps q range rows r is = at (query_text q) refl
  where
    at : (text : Option (List ℕ)) → query_text q ≡ text → list_any (λ row. hinted_by (query_text q) range row.span) rows ≡ true
    at None e = ap (λ (t : Option (List ℕ)). list_any (λ row. hinted_by t range row.span) rows) e ∙ is.within
    at (Some text) e = ap (λ (t : Option (List ℕ)). list_any (λ row. hinted_by t range row.span) rows) e ∙ answer_holds ps rows q text r e is.outcome

-- A range that has all moments has this one.
within_all : (range : Range) (moment : ℕ) → has_all_moments range ≡ true → is_within range moment ≡ true
within_all range moment all =
    let first : range.from ≡ 0 = eqb-true range.from 0 (and_left (range.from == 0) (is_none range.until) all) in
    rw (le-leb range.from moment (omega (arith, first))) (before range.until (and_right (range.from == 0) (is_none range.until) all))
  where
    before : (until : Option ℕ) → is_none until ≡ true → is_before until moment ≡ true
    before None none = refl
    before (Some until) none = cc

-- a span that the filter keeps is hinted, if the hint asks for those
kept_hinted : (ps : List Pattern) (rows : List Row) (condition : Option Placed) (text : Option (List ℕ)) (range : Range) (s : Span) → filter_text condition ≡ text → (is_some text || has_all_moments range) ≡ true
    → filter_span ps rows condition s ≡ true → hinted_by text range s ≡ true
kept_hinted ps rows condition None range s is all kept = within_all range s.start all
kept_hinted ps rows condition (Some text) range s is all kept = kept_holds ps rows condition text is s kept

-- the members of the filter are so of a span that it keeps
filter_so : (ps : List Pattern) (rows : List Row) (condition : Option Placed) (s : Span) → filter_span ps rows condition s ≡ true → list_all (λ e. is_so ps [] s e) (filter_members condition) ≡ true
filter_so ps rows None s kept = refl
filter_so ps rows (Some e) s kept = members_so ps rows s e.1 kept

module _ (ps : List Pattern) (q : QueryTree) (range : Range) (rows : List Row) (r : TraceResult) (is : IsResult ps q range rows r) where
  abbrev hint : Hint
  hint = hint_of q range

  abbrev with_members : List Tree → SieveParts
  with_members members = record { hint = hint; patterns = ps; members = members }

  abbrev IsThere : List Tree → Type 0
  IsThere members = list_any (λ row. is_sifted (with_members members) row.span) rows ≡ true

  of_filter : (place : ℕ) (condition : Option Placed) → q.spansets ≡ Filter place condition → hints_the_kept hint ≡ true → IsThere (filter_members condition)
  of_filter place condition filters all =
      let k = answer_kept ps rows q r place condition filters is.outcome in
      let s = k.passes.row.span in
      let so = filter_so ps rows condition s k.passes.kept in
      let there = kept_hinted ps rows condition (query_text q) range s (sym (ap set_text filters)) all k.passes.kept in
      there_any (λ row. is_sifted (with_members (filter_members condition)) row.span) rows k.at k.passes.row k.passes.is (rw (so, there) refl)

  of_set : (set : SetTree) → q.spansets ≡ set → hints_the_kept hint ≡ true → IsThere (set_members set)
  of_set (Filter place condition) filters all = of_filter place condition filters all
  of_set (Join at op a b) joins all = hinted ps q range rows r is

  sifted : list_any (λ row. is_sifted (sieve_of ps q range) row.span) rows ≡ true
  sifted = (elim (hints_the_kept hint) as (λ b. hints_the_kept hint ≡ b → IsThere (if hints_the_kept hint then set_members q.spansets else [])) [
    | true ↦ λ t. rw t (of_set q.spansets refl t)
    | false ↦ λ t. rw t (hinted ps q range rows r is)
  ]) refl

-- a sifted row of the trace, no earlier than its result
pub record SiftedRow (ps : List Pattern) (q : QueryTree) (range : Range) (rows : List Row) (id : TraceId) (r : TraceResult) : Type 0 where
  pub row : Row
  pub member : Contains rows row
  pub passes : is_sifted (sieve_of ps q range) row.span ≡ true
  pub is : row.span.trace ≡ id
  pub late : r.start ≤ row.span.start

pub sifted_row : (ps : List Pattern) (q : QueryTree) (range : Range) (rows firsts : List Row) (id : TraceId) (r : TraceResult) → IsFirstOf rows firsts
    → IsResult ps q range (rows_of_trace id firsts) r → SiftedRow ps q range rows id r
sifted_row ps q range rows firsts id r first is =
    let t = there (λ row. is_sifted (sieve_of ps q range) row.span) (rows_of_trace id firsts) (sifted ps q range (rows_of_trace id firsts) r is) in
    let k = kept (is_of_trace id) firsts t.row t.member.0 t.member.1 t.member.2 in
    let early = earliest_bounds (latest (rows_of_trace id firsts)) (rows_of_trace id firsts) t.row t.member.0 t.member.1 t.member.2 in
    let starts = result_starts ps q (rows_of_trace id firsts) r is.outcome in record {
      row = t.row;
      member = first_is_row (row_key t.row) rows t.row (All-contains (λ x. first_at (row_key x) rows ≡ Some x) firsts t.row first.only k.member);
      passes = t.passes;
      is = same_trace t.row.span.trace id k.passes;
      late = omega (arith, early, starts);
    }

pub picked : AnsweredIsPicked
picked ps q range rows firsts picks id r first are is =
    let sieve = sieve_of ps q range in
    let h = sifted_row ps q range rows firsts id r first is in
    let among = contains_map pick_of (filter (is_sifted sieve) (spans_of rows)) h.row.span
    (contains_filter (is_sifted sieve) (spans_of rows) h.row.span (contains_map (λ (row : Row). row.span) rows h.row h.member) h.passes) in
    let p = All-contains (IsCovered picks) (sifted_picks sieve (spans_of rows)) (pick_of h.row.span) are.whole among in
    (p.0, p.1, p.2 ∙ h.is, omega (arith, h.late, p.3))

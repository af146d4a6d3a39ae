-- A look's rows may be replaced by rows that have the same of each trace.
use Rattle.std.proofs.Common.{◌≡◌, Some, None, true, false, true≢false, List, [], ◌∷◌, ◌++◌, All, Contains, refl, sym, ◌∙◌, ap, subst, if◌then◌else◌}
use Rattle.std.specs.List.{AllByRecursion}
use Rattle.std.specs.Ordering.{is_eq}
use Rattle.std.specs.declared.cmp.Ordering.{Ordering}
use Rattle.std.specs.declared.cmp.Ordering.TheVariants.{Less, Equal, Greater}
use Rattle.std.proofs.lemmas.Cmp.{tied_itself}
use Rattle.std.proofs.lemmas.List.Elements.{All-contains, All-contains_itself, All-filter, All-from_recursion, All-weaker, recursion_from_All}
use Rattle.span_types.specs.First.{IsFirstOf, first_at, lesser, row_at}
use Rattle.span_types.specs.Keys.{row_key}
use Rattle.span_types.specs.Orders.{key_cmp, trace_cmp}
use Rattle.span_types.specs.declared.ids.Key.{Key}
use Rattle.span_types.specs.declared.spans.Row.{Row}
use Rattle.span_types.proofs.FirstLaws.{first_at-append, firsts_alike, key_cmp_exact}
use Rattle.rows_by_trace.specs.Traces.{is_of_trace, rows_of_trace}
use Rattle.search_answer.proofs.Fronts.{trace_cmp_total}
use Rattle.column_scan.specs.Candidates.{pick_of, spans_of}
use Rattle.column_scan.specs.Sieves.{SieveParts, is_sifted, sifted_picks}
use Rattle.column_scan.proofs.Latest.{contains_filter, contains_map}
use Rattle.query_fanout.specs.Searching.{AreAlikeByTrace}

is_equal : (o : Ordering) → is_eq o ≡ true → o ≡ Equal
is_equal Less h = cc
is_equal Equal h = refl
is_equal Greater h = cc

-- a row is of its trace
of_own : (r : Row) → is_of_trace r.span.trace r ≡ true
of_own r = ap is_eq (tied_itself trace_cmp_total r.span.trace)

-- ---- first occurrences

-- a row of another trace has another key
other_row : (k : Key) (r : Row) → is_of_trace k.trace r ≡ false → row_at k r ≡ None
other_row k r other = (elim (is_eq (key_cmp (row_key r) k)) as (λ t. is_eq (key_cmp (row_key r) k) ≡ t → (if t then Some r else None) ≡ None) [
  | true ↦ λ e.
      let same : row_key r ≡ k = key_cmp_exact (row_key r) k (is_equal (key_cmp (row_key r) k) e) in
      absurd (true≢false (sym (of_own r) ∙ ap (λ (q : Key). is_eq (trace_cmp r.span.trace q.trace)) same ∙ other))
  | false ↦ λ e. refl
]) refl

-- the first row of a key is that among the rows of its trace
first_of_trace : (k : Key) (rows : List Row) → first_at k (rows_of_trace k.trace rows) ≡ first_at k rows
first_of_trace k [] = refl
first_of_trace k (r ∷ rs) =
    let rest = first_of_trace k rs in
    (elim (is_of_trace k.trace r) as (λ t. is_of_trace k.trace r ≡ t → first_at k (if t then r ∷ rows_of_trace k.trace rs else rows_of_trace k.trace rs) ≡ first_at k (r ∷ rs)) [
      | true ↦ λ e. ap (lesser (row_at k r)) rest
      | false ↦ λ e. rest ∙ sym (ap (λ o. lesser o (first_at k rs)) (other_row k r e))
    ]) refl

-- beside more rows they have the same first occurrences
pub firsts_beside : (own rows more firsts : List Row) → AreAlikeByTrace own rows → IsFirstOf (own ++ more) firsts → IsFirstOf (rows ++ more) firsts
firsts_beside own rows more firsts alike are =
    firsts_alike (own ++ more) (rows ++ more) firsts (λ k. first_at-append k own more ∙ ap (λ o. lesser o (first_at k more)) (same k) ∙ sym (first_at-append k rows more)) are
  where
    same : (k : Key) → first_at k own ≡ first_at k rows
    same k = sym (first_of_trace k own) ∙ ap (first_at k) (alike k.trace) ∙ first_of_trace k rows

-- ---- sifted rows

-- each row of the one is among those of the other
within : (own rows : List Row) → AreAlikeByTrace own rows → All (Contains rows) own
within own rows alike = All-weaker (Contains own) (Contains rows) there own (All-contains_itself own)
  where
    there : (r : Row) → Contains own r → Contains rows r
    there r m =
        let theirs = subst (λ (l : List Row). Contains l r) (alike r.span.trace) (contains_filter (is_of_trace r.span.trace) own r m (of_own r)) in
        All-contains (Contains rows) (rows_of_trace r.span.trace rows) r (All-filter (is_of_trace r.span.trace) (Contains rows) rows (All-contains_itself rows)) theirs

sifted_part : (sieve : SieveParts) (rows part : List Row) → AllByRecursion (Contains rows) part
    → AllByRecursion (Contains (sifted_picks sieve (spans_of rows))) (sifted_picks sieve (spans_of part))
sifted_part sieve rows [] within = tt
sifted_part sieve rows (x ∷ xs) within =
    let rest = sifted_part sieve rows xs within.1 in
    (elim (is_sifted sieve x.span) as (λ b. is_sifted sieve x.span ≡ b → AllByRecursion (Contains (sifted_picks sieve (spans_of rows))) (sifted_picks sieve (spans_of (x ∷ xs)))) [
      | true ↦ λ t. rw t (here t, rest)
      | false ↦ λ f. rw f rest
    ]) refl
  where
    here : is_sifted sieve x.span ≡ true → Contains (sifted_picks sieve (spans_of rows)) (pick_of x.span)
    here t = contains_map pick_of _ x.span (contains_filter (is_sifted sieve) (spans_of rows) x.span (contains_map (λ (r : Row). r.span) rows x within.0) t)

-- so each sifted one is among the sifted ones
pub sifted_within : (sieve : SieveParts) (own rows : List Row) → AreAlikeByTrace own rows → All (Contains (sifted_picks sieve (spans_of rows))) (sifted_picks sieve (spans_of own))
sifted_within sieve own rows alike =
    All-from_recursion (Contains (sifted_picks sieve (spans_of rows))) (sifted_picks sieve (spans_of own))
    (sifted_part sieve rows own (recursion_from_All (Contains rows) own (within own rows alike)))

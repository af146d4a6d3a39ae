-- What a query answers of several traces: parts are joined, and the traces in a range answer what a search answers.
use Rattle.std.proofs.Common.{◌≡◌, ℕ, zero, suc, ◌<◌, ◌+◌, List, [], ◌∷◌, ◌++◌, true, false, if◌then◌else◌, Option, Some, None, refl, sym, ◌∙◌, ap, subst, arith, Contains, length, take, slice_index_or, append_assoc}
use Rattle.std.specs.List.{AllByRecursion, IsDistinct}
use Rattle.std.specs.List.Sorted.{IsSorted}
use Rattle.std.specs.Option.{option_to_list}
use Rattle.std.specs.Ordering.{is_eq, is_lt, nat_cmp, ordering_then}
use Rattle.std.specs.Prelude.{◌≢◌}
use Rattle.std.proofs.lemmas.Bool.{true≢false}
use Rattle.std.proofs.lemmas.Cmp.{tied_itself}
use Rattle.std.proofs.lemmas.List.Elements.{All-from_recursion, Contains-append_right, recursion_from_All}
use Rattle.std.proofs.lemmas.List.Sorted.{IsPermutation-refl, ranks_by, sorted_far}
use Rattle.std.proofs.lemmas.Map.Keys.{IsDistinct-head, IsDistinct-tail}
use Rattle.moment_range.specs.declared.range.Range.{Range}
use Rattle.rows_by_trace.specs.Traces.{is_of_trace, rows_of_trace}
use Rattle.span_types.specs.declared.ids.TraceId.{TraceId}
use Rattle.span_types.specs.declared.spans.Row.{Row}
use Rattle.span_types.specs.Orders.{trace_cmp}
use Rattle.spanset_eval.specs.declared.results.TraceResult.{TraceResult}
use Rattle.spanset_eval.specs.declared.groups.Group.{Group}
use Rattle.spanset_eval.specs.Outcomes.{IsOutcome, shown}
use Rattle.spanset_eval.specs.Ranking.{rank_cmp}
use Rattle.spanset_eval.specs.Stages.{remaining, selected_fields}
use Rattle.traceql_syntax.specs.declared.field.Field.{Field}
use Rattle.traceql_syntax.specs.Trees.{QueryTree}
use Rattle.traceql_types.specs.declared.pattern.Pattern.{Pattern}
use Rattle.traceql_value.specs.Spans.{start_of}
use Rattle.search_answer.specs.declared.bounds.Bounds.{Bounds}
use Rattle.search_answer.specs.declared.traces.TraceInRange.{TraceInRange}
use Rattle.search_answer.specs.Answers.{AreResults, IsAnswer, IsResult, NoneTwice, is_in_range}
use Rattle.search_answer.specs.InRange.{AreInRange, IsInRange, is_same_trace, rows_of_each, trace_rank_cmp}
use Rattle.search_answer.specs.Parts.{Answers, AreFirstAnswers, JoinedAnswers, PartedAnswers}
use Rattle.search_answer.proofs.Fronts.{same_trace, trace_cmp_total}
use Rattle.search_answer.proofs.OneList.{one_outcome}
use Rattle.search_answer.proofs.RankLaws.{trace_rank_total}
use Rattle.search_answer.proofs.Sorting.{NotBefore, Pairs, pairs_at, sorted_pairs}

-- ---- parts

pub joined : JoinedAnswers
joined ps q [] ys a b none other = subst (λ l. Answers ps q ys (l ++ b)) (sym none) other
joined ps q (x ∷ xs) ys a b (outcome, more, is, rest, all) other = (
  outcome,
  more ++ b,
  is,
  joined ps q xs ys more b rest other,
  ap (λ l. l ++ b) all ∙ append_assoc (option_to_list outcome) more b,
)

pub parted : PartedAnswers
parted ps q [] ys all answers = ([], all, refl, answers, refl)
parted ps q (x ∷ xs) ys all (outcome, more, is, rest, are) =
    let (a, b, left, right, e) = parted ps q xs ys more rest in (
      option_to_list outcome ++ a,
      b,
      (outcome, a, is, left, refl),
      right,
      are ∙ ap (λ l. option_to_list outcome ++ l) e ∙ sym (append_assoc (option_to_list outcome) a b),
    )

-- ---- what a result tells of its trace

-- A trace of which something is shown has rows: of the first one the id, and of all the earliest start.
pub record Tells (rows : List Row) (r : TraceResult) : Type 0 where
  pub first : Row
  pub rest : List Row
  pub some : rows ≡ first ∷ rest
  pub id : r.trace ≡ first.span.trace
  pub start : r.start ≡ start_of rows

tells : (fields : List Field) (rows : List Row) (groups : List Group) (r : TraceResult) → Some r ≡ shown fields rows groups → Tells rows r
tells fields [] groups r e = absurd (some_none e)
  where
    some_none : Some r ≡ None → ⊥
    some_none e = cc
tells fields (x ∷ xs) [] r e = absurd (some_none e)
  where
    some_none : Some r ≡ None → ⊥
    some_none e = cc
tells fields (x ∷ xs) (g ∷ gs) r e = record { first = x; rest = xs; some = refl; id = ap (λ z. z.trace) (inside _ _ e); start = ap (λ z. z.start) (inside _ _ e) }
  where
    inside : (a b : TraceResult) → Some a ≡ Some b → a ≡ b
    inside a b h = cc

-- This is the result of a trace in the range.
abbrev Comes : List Pattern → QueryTree → TraceInRange → TraceResult → Type 0
Comes ps q t r = IsOutcome ps t.rows.now q (Some r)

told : (ps : List Pattern) (q : QueryTree) (t : TraceInRange) (r : TraceResult) → Comes ps q t r → Tells t.rows.now r
told ps q t r is = tells (selected_fields q.stages) t.rows.now (remaining ps t.rows.now q.stages is.selected) r is.is

-- What is answered of a trace's rows is of the trace.
pub trace_is : (ps : List Pattern) (q : QueryTree) (id : TraceId) (rows : List Row) (r : TraceResult) → IsOutcome ps (rows_of_trace id rows) q (Some r) → r.trace ≡ id
trace_is ps q id rows r is =
    let told = tells (selected_fields q.stages) (rows_of_trace id rows) (remaining ps (rows_of_trace id rows) q.stages is.selected) r is.is in
    told.id ∙ of_filter id rows told.first told.rest told.some
  where
    of_filter : (id : TraceId) (all : List Row) (x : Row) (xs : List Row) → rows_of_trace id all ≡ x ∷ xs → x.span.trace ≡ id
    of_filter id [] x xs e = cc
    of_filter id (y ∷ ys) x xs e =
        elim (is_of_trace id y) as (λ b. is_of_trace id y ≡ b → (if b then y ∷ rows_of_trace id ys else rows_of_trace id ys) ≡ x ∷ xs → x.span.trace ≡ id) [
          | true ↦ λ h e. let head : y ≡ x = cc in subst (λ (z : Row). z.span.trace ≡ id) head (same_trace y.span.trace id h)
          | false ↦ λ h e. of_filter id ys x xs e
        ] refl e

same_id : (ps : List Pattern) (q : QueryTree) (range : Range) (rows : List Row) (t : TraceInRange) (r : TraceResult) → IsInRange range rows t → Comes ps q t r → r.trace ≡ t.trace
same_id ps q range rows t r here is = trace_is ps q t.trace rows r (subst (λ rs. IsOutcome ps rs q (Some r)) here.whole is)

same_start : (ps : List Pattern) (q : QueryTree) (range : Range) (rows : List Row) (t : TraceInRange) (r : TraceResult) → IsInRange range rows t → Comes ps q t r → r.start ≡ t.start
same_start ps q range rows t r here is = (told ps q t r is).start ∙ sym here.starts

right : (ps : List Pattern) (q : QueryTree) (range : Range) (rows : List Row) (t : TraceInRange) (r : TraceResult) → IsInRange range rows t → Comes ps q t r →
    IsResult ps q range (rows_of_trace r.trace rows) r
right ps q range rows t r here is =
    let ours : t.rows.now ≡ rows_of_trace r.trace rows = here.whole ∙ ap (λ id. rows_of_trace id rows) (sym (same_id ps q range rows t r here is)) in
    record {
      within = ap (is_in_range range) (sym ours) ∙ here.within;
      outcome = subst (λ rs. IsOutcome ps rs q (Some r)) ours is;
    }

-- ---- what holds of traces and so of their results

-- Of all that comes from traces in the range.
of_each : (ps : List Pattern) (q : QueryTree) (range : Range) (rows : List Row) (P : TraceInRange → Type 0) (Q : TraceResult → Type 0) →
    ((t : TraceInRange) (r : TraceResult) → IsInRange range rows t → Comes ps q t r → P t → Q r) →
    (ts : List TraceInRange) (rs : List TraceResult) → AllByRecursion (IsInRange range rows) ts → AllByRecursion P ts → Answers ps q (rows_of_each ts) rs → AllByRecursion Q rs
of_each ps q range rows P Q step [] rs here each none = subst (AllByRecursion Q) (sym none) tt
of_each ps q range rows P Q step (t ∷ ts) rs here each (outcome, more, is, rest, are) =
    let others : AllByRecursion Q more = of_each ps q range rows P Q step ts more here.1 each.1 rest in
    subst (AllByRecursion Q) (sym are) (with_one outcome is others)
  where
    with_one : (o : Option TraceResult) → IsOutcome ps t.rows.now q o → AllByRecursion Q more → AllByRecursion Q (option_to_list o ++ more)
    with_one None is others = others
    with_one (Some r) is others = (step t r here.0 is each.0, others)

of_pairs : (ps : List Pattern) (q : QueryTree) (range : Range) (rows : List Row) (R : TraceInRange → TraceInRange → Type 0) (S : TraceResult → TraceResult → Type 0) →
    ((t : TraceInRange) (r : TraceResult) (u : TraceInRange) (s : TraceResult) → IsInRange range rows t → Comes ps q t r → IsInRange range rows u → Comes ps q u s → R t u → S r s) →
    (ts : List TraceInRange) (rs : List TraceResult) → AllByRecursion (IsInRange range rows) ts → Pairs R ts → Answers ps q (rows_of_each ts) rs → Pairs S rs
of_pairs ps q range rows R S step [] rs here pairs none = subst (Pairs S) (sym none) tt
of_pairs ps q range rows R S step (t ∷ ts) rs here pairs (outcome, more, is, rest, are) =
    let others : Pairs S more = of_pairs ps q range rows R S step ts more here.1 pairs.1 rest in
    subst (Pairs S) (sym are) (with_one outcome is others)
  where
    with_one : (o : Option TraceResult) → IsOutcome ps t.rows.now q o → Pairs S more → Pairs S (option_to_list o ++ more)
    with_one None is others = others
    with_one (Some r) is others =
        (of_each ps q range rows (R t) (S r) (λ u s there comes. step t r u s here.0 is there comes) ts more here.1 pairs.0 rest, others)

-- A trace's result stands among those of all.
found : (ps : List Pattern) (q : QueryTree) (ts : List TraceInRange) (rs : List TraceResult) (t : TraceInRange) (r : TraceResult) (k : ℕ) → k < length ts → slice_index_or ts k t ≡ t →
    Answers ps q (rows_of_each ts) rs → Comes ps q t r → Contains rs r
found ps q [] rs t r k l e answers comes = absurd (omega arith)
found ps q (u ∷ ts) rs t r zero l e (outcome, more, is, rest, are) comes =
    let one : outcome ≡ Some r = one_outcome ps u.rows.now q outcome (Some r) is (subst (λ (v : TraceInRange). IsOutcome ps v.rows.now q (Some r)) (sym e) comes) in
    subst (λ l. Contains l r) (sym (are ∙ ap (λ o. option_to_list o ++ more) one)) (0, omega arith, refl)
found ps q (u ∷ ts) rs t r (suc k) l e (outcome, more, is, rest, are) comes =
    subst (λ l. Contains l r) (sym are) (Contains-append_right (option_to_list outcome) more r (found ps q ts more t r k (omega arith) e rest comes))

-- ---- the whole answer

none_twice : (rs : List TraceResult) → Pairs (λ r s. r.trace ≢ s.trace) rs → NoneTwice rs
none_twice [] pairs = tt
none_twice (r ∷ rs) pairs = (All-from_recursion (λ s. r.trace ≢ s.trace) rs pairs.0, none_twice rs pairs.1)

apart_pairs : (ts : List TraceInRange) → IsDistinct is_same_trace ts → Pairs (λ t u. t.trace ≢ u.trace) ts
apart_pairs [] once = tt
apart_pairs (t ∷ ts) once = (differ ts (IsDistinct-head is_same_trace t ts once), apart_pairs ts (IsDistinct-tail is_same_trace t ts once))
  where
    differ : (us : List TraceInRange) → AllByRecursion (λ u. is_same_trace t u ≡ false) us → AllByRecursion (λ u. t.trace ≢ u.trace) us
    differ [] each = tt
    differ (u ∷ us) each = (λ same. true≢false (sym (ap is_eq (tied_itself trace_cmp_total t.trace)) ∙ ap (λ id. is_eq (trace_cmp t.trace id)) same ∙ each.0), differ us each.1)

-- what a search shows of a trace
abbrev Right : List Pattern → QueryTree → Range → List Row → TraceResult → Type 0
Right ps q range rows r = IsResult ps q range (rows_of_trace r.trace rows) r

pub are_results : (ps : List Pattern) (q : QueryTree) (range : Range) (rows : List Row) (ts : List TraceInRange) (rs : List TraceResult) → AreInRange range rows ts →
    Answers ps q (rows_of_each ts) rs → AreResults ps q range rows rs
are_results ps q range rows ts rs are answers = record {
  only = All-from_recursion (Right ps q range rows) rs
      (of_each ps q range rows (λ t. Unit {0}) (Right ps q range rows) (λ t r here comes _. right ps q range rows t r here comes) ts rs here (nothing ts) answers);
  whole = λ id r is.
      let there = are.whole id is.within in
      let t : TraceInRange = there.0 in
      let member = there.1 in
      let ours : t.rows.now ≡ rows_of_trace id rows = (at_place t member.0 member.1 member.2).whole ∙ ap (λ i. rows_of_trace i rows) there.2 in
      found ps q ts rs t r member.0 member.1 member.2 answers (subst (λ rs. IsOutcome ps rs q (Some r)) (sym ours) is.outcome);
  once = none_twice rs
      (of_pairs ps q range rows (λ t u. t.trace ≢ u.trace) (λ r s. r.trace ≢ s.trace)
      (λ t r u s here comes there goes differ same. differ (sym (same_id ps q range rows t r here comes) ∙ same ∙ same_id ps q range rows u s there goes))
      ts rs here (apart_pairs ts are.once) answers);
}
  where
    here : AllByRecursion (IsInRange range rows) ts
    here = recursion_from_All (IsInRange range rows) ts are.only

    nothing : (us : List TraceInRange) → AllByRecursion (λ t. Unit {0}) us
    nothing [] = tt
    nothing (u ∷ us) = (tt, nothing us)

    at_place : (t : TraceInRange) (k : ℕ) → k < length ts → slice_index_or ts k t ≡ t → IsInRange range rows t
    at_place t k l e = subst (IsInRange range rows) e (are.only k t l)

pub results_sorted : (ps : List Pattern) (q : QueryTree) (range : Range) (rows : List Row) (ts : List TraceInRange) (rs : List TraceResult) → AreInRange range rows ts →
    IsSorted trace_rank_cmp ts → Answers ps q (rows_of_each ts) rs → IsSorted rank_cmp rs
results_sorted ps q range rows ts rs are sorted answers =
    let before = λ (s t : TraceInRange). is_lt (trace_rank_cmp s t) in
    let goes = λ (r s : TraceResult). is_lt (rank_cmp r s) in
    let pairs = sorted_pairs before ts (λ i j d l h. sorted_far before (ranks_by trace_rank_total (λ t. t)) ts sorted i j d (omega arith) h) in
    let behind = of_pairs ps q range rows (NotBefore before) (NotBefore goes) step ts rs (recursion_from_All (IsInRange range rows) ts are.only) pairs answers in
    λ k d low high. pairs_at (NotBefore goes) rs behind k (k + 1) d (omega arith) high
  where
    step : (t : TraceInRange) (r : TraceResult) (u : TraceInRange) (s : TraceResult) → IsInRange range rows t → Comes ps q t r → IsInRange range rows u → Comes ps q u s →
        is_lt (trace_rank_cmp u t) ≡ false → is_lt (rank_cmp s r) ≡ false
    step t r u s here comes there goes later =
        let start_r = same_start ps q range rows t r here comes in
        let start_s = same_start ps q range rows u s there goes in
        let id_r = same_id ps q range rows t r here comes in
        let id_s = same_id ps q range rows u s there goes in
        ap (λ n. is_lt (ordering_then (nat_cmp n s.start) (trace_cmp s.trace r.trace))) start_r
        ∙ ap (λ n. is_lt (ordering_then (nat_cmp t.start n) (trace_cmp s.trace r.trace))) start_s
        ∙ ap (λ i. is_lt (ordering_then (nat_cmp t.start u.start) (trace_cmp i r.trace))) id_s
        ∙ ap (λ i. is_lt (ordering_then (nat_cmp t.start u.start) (trace_cmp u.trace i))) id_r
        ∙ later

-- What the ranked traces in the range answer first is what the search answers.
pub ranked_answer : (ps : List Pattern) (q : QueryTree) (range : Range) (bounds : Bounds) (rows : List Row) (ts : List TraceInRange) (answer : List TraceResult) → AreInRange range rows ts →
    IsSorted trace_rank_cmp ts → AreFirstAnswers ps q bounds (rows_of_each ts) answer → IsAnswer ps q range bounds.limit bounds.spans_per_set rows answer
ranked_answer ps q range bounds rows ts answer are sorted first = record {
  all = first.all;
  results = are_results ps q range rows ts first.all are first.answers;
  first = take bounds.limit first.all;
  ranked = record {
    all = first.all;
    same = IsPermutation-refl first.all;
    sorted = results_sorted ps q range rows ts first.all are sorted first.answers;
    first_are = refl;
  };
  is = first.are;
}

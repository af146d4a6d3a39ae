-- The traces of rows that are in the range: the first trace, where it is, and those of the rows after it.
use Rattle.std.proofs.Common.{◌≡◌, ◌⊎◌, inl, inr, ℕ, ◌<◌, take, drop, ◌==◌, eqb-true, List, [], ◌∷◌, ◌++◌, Bool, true, false, Option, Some, None, refl, sym, ◌∙◌, ap, subst, arith, All, Contains, length, append_assoc}
use Rattle.std.specs.List.{IsDistinct}
use Rattle.std.specs.List.Sorted.{IsPermutation}
use Rattle.std.specs.Option.{option_to_list}
use Rattle.std.specs.Ordering.{is_eq}
use Rattle.std.proofs.lemmas.Bool.{cases_order, true≢false}
use Rattle.std.proofs.lemmas.Cmp.{eq_by_cmp_equiv}
use Rattle.std.proofs.lemmas.List.Elements.{All-append, All-cons, All-nil, All-weaker, Contains-append_right, filter_passes, recursion_from_All}
use Rattle.std.proofs.lemmas.List.Kept.{AllPairs-filter}
use Rattle.std.proofs.lemmas.List.Sorted.{All-permutation, Contains-permutation}
use Rattle.std.proofs.lemmas.Map.Keys.{IsDistinct-IsPermutation, IsDistinct-cons, IsDistinct-from_apart}
use Rattle.std.proofs.lemmas.Option.{get_or_from_slice_get, slice_get_within}
use Rattle.std.specs.Prelude.{◌≢◌, slice_get}
use Rattle.moment_range.specs.declared.range.Range.{Range}
use Rattle.rows_by_trace.specs.Traces.{is_of_trace, rows_of_trace}
use Rattle.span_tree.specs.Nodes.{IsOneTrace}
use Rattle.span_types.specs.declared.ids.TraceId.{TraceId}
use Rattle.span_types.specs.declared.spans.Row.{Row}
use Rattle.span_types.specs.Keys.{row_key}
use Rattle.span_types.specs.Orders.{trace_cmp}
use Rattle.traceql_value.specs.Spans.{start_of}
use Rattle.search_answer.specs.declared.traces.TraceInRange.{TraceInRange}
use Rattle.search_answer.specs.Answers.{is_in_range}
use Rattle.search_answer.specs.InRange.{AreInRange, IsInRange, is_same_trace}
use Rattle.search_answer.specs.Walking.{IsPart, IsSorted, IsTraceOf}
use Rattle.search_answer.proofs.Fronts.{Cut, Splits, none_later, rows_here, rows_of_other, same_trace, trace_cmp_total}

true_false : true ≡ false → ⊥
true_false e = true≢false e

-- ---- one trace

-- A trace in the range has rows.
no_rows_in_range : (range : Range) (rows : List Row) → rows ≡ [] → is_in_range range rows ≡ true → ⊥
no_rows_in_range range rows none within = true_false (sym within ∙ ap (is_in_range range) none)

-- The trace of the front has the front's id.
told : (range : Range) (id : TraceId) (front later : List Row) (t : TraceInRange) → Splits id front later → IsTraceOf range front t → t.trace ≡ id
told range id [] later t s is = absurd (true_false (sym is.within))
told range id (r ∷ rs) later t s is = is.first r ∙ same_trace r.span.trace id (s.here 0 r (omega arith))

placed : (range : Range) (id : TraceId) (front later : List Row) (t : TraceInRange) → Splits id front later → IsTraceOf range front t → IsInRange range (front ++ later) t
placed range id front later t s is = record {
  whole = is.rows ∙ sym (rows_here id front later s) ∙ ap (λ i. rows_of_trace i (front ++ later)) (sym (told range id front later t s is));
  starts = is.starts ∙ ap start_of (sym is.rows);
  within = ap (is_in_range range) is.rows ∙ is.within;
}

-- A trace of the rows after the front is another one.
other_trace : (range : Range) (id : TraceId) (front later : List Row) (other : TraceId) → Splits id front later → is_in_range range (rows_of_trace other later) ≡ true →
    is_eq (trace_cmp id other) ≡ false
other_trace range id front later other s within =
    elim (is_eq (trace_cmp id other)) as (λ b. is_eq (trace_cmp id other) ≡ b → b ≡ false) [
      | true ↦ λ e. absurd (no_rows_in_range range (rows_of_trace other later) (ap (λ t. rows_of_trace t later) (sym (same_trace id other e)) ∙ none_later id front later s) within)
      | false ↦ λ e. refl
    ] refl

behind_other : (range : Range) (id : TraceId) (front later : List Row) (t : TraceInRange) → Splits id front later → IsInRange range later t → is_eq (trace_cmp id t.trace) ≡ false
behind_other range id front later t s is = other_trace range id front later t.trace s (ap (is_in_range range) (sym is.whole) ∙ is.within)

behind : (range : Range) (id : TraceId) (front later : List Row) (t : TraceInRange) → Splits id front later → IsInRange range later t → IsInRange range (front ++ later) t
behind range id front later t s is = record {
  whole = is.whole ∙ sym (rows_of_other id t.trace front later s (behind_other range id front later t s is));
  starts = is.starts;
  within = is.within;
}

-- ---- the first trace and those after it

with_first : (range : Range) (id : TraceId) (front later : List Row) (found : Option TraceInRange) (more : List TraceInRange) → Splits id front later →
    IsPart range front found → AreInRange range later more → AreInRange range (front ++ later) (option_to_list found ++ more)
with_first range id front later found more s part are = record {
  only = All-append (IsInRange range (front ++ later)) (option_to_list found) more (only_first found part.only)
      (All-weaker (IsInRange range later) (IsInRange range (front ++ later)) (λ t is. behind range id front later t s is) more are.only);
  whole = λ other within. whole_at other within (is_eq (trace_cmp id other)) refl;
  once = once_first found part.only;
}
  where
    only_first : (o : Option TraceInRange) → ((t : TraceInRange) → o ≡ Some t → IsTraceOf range front t) → All (IsInRange range (front ++ later)) (option_to_list o)
    only_first None only = All-nil (IsInRange range (front ++ later))
    only_first (Some t) only = All-cons (IsInRange range (front ++ later)) t [] (placed range id front later t s (only t refl)) (All-nil (IsInRange range (front ++ later)))

    whole_at : (other : TraceId) → is_in_range range (rows_of_trace other (front ++ later)) ≡ true → (b : Bool) → is_eq (trace_cmp id other) ≡ b →
        (t : TraceInRange) × Contains (option_to_list found ++ more) t × (t.trace ≡ other)
    whole_at other within true e =
        let same : id ≡ other = same_trace id other e in
        let here : rows_of_trace other (front ++ later) ≡ front = ap (λ t. rows_of_trace t (front ++ later)) (sym same) ∙ rows_here id front later s in
        let some = part.whole (ap (is_in_range range) (sym here) ∙ within) in
        let is : IsTraceOf range front some.0 = part.only some.0 some.1 in (
          some.0,
          subst (λ o. Contains (option_to_list o ++ more) some.0) (sym some.1) (0, omega arith, refl),
          told range id front later some.0 s is ∙ same,
        )
    whole_at other within false e =
        let rows : rows_of_trace other (front ++ later) ≡ rows_of_trace other later = rows_of_other id other front later s e in
        let there = are.whole other (ap (is_in_range range) (sym rows) ∙ within) in
        (there.0, Contains-append_right (option_to_list found) more there.0 there.1, there.2)

    apart : (t u : TraceInRange) → IsTraceOf range front t → IsInRange range later u → is_same_trace t u ≡ false
    apart t u is other = ap (λ i. is_eq (trace_cmp i u.trace)) (told range id front later t s is) ∙ behind_other range id front later u s other

    once_first : (o : Option TraceInRange) → ((t : TraceInRange) → o ≡ Some t → IsTraceOf range front t) → IsDistinct is_same_trace (option_to_list o ++ more)
    once_first None only = are.once
    once_first (Some t) only =
        IsDistinct-cons is_same_trace t more
        (recursion_from_All (λ u. is_same_trace t u ≡ false) more (All-weaker (IsInRange range later) (λ u. is_same_trace t u ≡ false) (λ u other. apart t u (only t refl) other) more are.only))
        are.once

-- Where there are no rows there is no trace.
pub no_traces : (range : Range) (rows : List Row) → rows ≡ [] → AreInRange range rows []
no_traces range rows none = subst (λ rs. AreInRange range rs []) (sym none) (record {
  only = All-nil (IsInRange range []);
  whole = λ id within. absurd (true_false (sym within));
  once = IsDistinct-from_apart is_same_trace [] (λ i j d l h. absurd (omega arith));
})

-- A step of the walk: what completes the rows after it completes all.
pub walked : (range : Range) (rows rest front later : List Row) (n : ℕ) (found : Option TraceInRange) (before after : List TraceInRange) → Cut rest n →
    front ≡ take n rest → later ≡ drop n rest → IsPart range front found → after ≡ before ++ option_to_list found →
    ((more : List TraceInRange) → AreInRange range rest more → AreInRange range rows (before ++ more)) →
    (more : List TraceInRange) → AreInRange range later more → AreInRange range rows (after ++ more)
walked range rows rest front later n found before after place is_front is_later part is so_far more are =
    let here : IsPart range (take n rest) found = subst (λ rs. IsPart range rs found) is_front part in
    let others : AreInRange range (drop n rest) more = subst (λ rs. AreInRange range rs more) is_later are in
    let joined : AreInRange range rest (option_to_list found ++ more) =
    subst (λ rs. AreInRange range rs (option_to_list found ++ more)) place.whole
    (with_first range place.id (take n rest) (drop n rest) found more place.splits here others) in
    subst (AreInRange range rows) (sym (append_assoc before (option_to_list found) more) ∙ ap (λ ts. ts ++ more) (sym is)) (so_far (option_to_list found ++ more) joined)

-- In another order they are the same traces.
pub reordered : (range : Range) (rows : List Row) (ts us : List TraceInRange) → IsPermutation ts us → AreInRange range rows ts → AreInRange range rows us
reordered range rows ts us same are = record {
  only = All-permutation (IsInRange range rows) ts us same are.only;
  whole = λ id within. let there = are.whole id within in (there.0, Contains-permutation ts us there.0 same there.1, there.2);
  once = IsDistinct-IsPermutation is_same_trace (λ s t. (eq_by_cmp_equiv trace_cmp_total).symm s.trace t.trace) ts us same are.once;
}

-- ---- each trace by itself

-- The rows of one trace among first occurrences are of one trace, and no two of them are of one span.
pub one_trace : (id : TraceId) (rows : List Row) → IsSorted rows → IsOneTrace (rows_of_trace id rows)
one_trace id rows sorted = record {
  together = λ i j a b x y. of_it i a x ∙ sym (of_it j b y);
  apart = λ i j a b x y same. one i j a b x y same;
}
  where
    of_it : (i : ℕ) (a : Row) → slice_get (rows_of_trace id rows) i ≡ Some a → a.span.trace ≡ id
    of_it i a x =
        let at = filter_passes (is_of_trace id) rows i a (slice_get_within (rows_of_trace id rows) i a x) in
        same_trace a.span.trace id (ap (is_of_trace id) (sym (get_or_from_slice_get (rows_of_trace id rows) i a a x)) ∙ at)

    below : (i j : ℕ) (a b : Row) → slice_get (rows_of_trace id rows) i ≡ Some a → slice_get (rows_of_trace id rows) j ≡ Some b → row_key a ≡ row_key b → i < j → ⊥
    below i j a b x y same l =
        AllPairs-filter (λ r s. row_key r ≢ row_key s) (is_of_trace id) rows sorted.apart i j a l (slice_get_within (rows_of_trace id rows) j b y)
        (ap row_key (get_or_from_slice_get (rows_of_trace id rows) i a a x) ∙ same ∙ sym (ap row_key (get_or_from_slice_get (rows_of_trace id rows) j b a y)))

    one : (i j : ℕ) (a b : Row) → slice_get (rows_of_trace id rows) i ≡ Some a → slice_get (rows_of_trace id rows) j ≡ Some b → row_key a ≡ row_key b → i ≡ j
    one i j a b x y same = decided (cases_order i j)
      where
        decided : (i ≡ j) ⊎ ((i < j) ⊎ (j < i)) → i ≡ j
        decided (inl e) = e
        decided (inr (inl l)) = absurd (below i j a b x y same l)
        decided (inr (inr l)) = absurd (below j i b a y x (sym same) l)

pub each_one_trace : (range : Range) (rows : List Row) (ts : List TraceInRange) → IsSorted rows → AreInRange range rows ts → All (λ t. IsOneTrace t.rows.now) ts
each_one_trace range rows ts sorted are =
    All-weaker (IsInRange range rows) (λ t. IsOneTrace t.rows.now) (λ t is. subst IsOneTrace (sym is.whole) (one_trace t.trace rows sorted)) ts are.only

-- A test for a length of 0.
pub empty : (rows : List Row) → (length rows == 0) ≡ true → rows ≡ []
empty [] h = refl
empty (r ∷ rs) h = let e = eqb-true (length (r ∷ rs)) 0 h in absurd (omega arith)

pub some_rows : (rows : List Row) → (length rows == 0) ≡ false → 0 < length rows
some_rows [] h = absurd (true_false h)
some_rows (r ∷ rs) h = omega arith

-- Of rows of one trace in block order the first starts earliest.
use Rattle.std.proofs.Common.{◌≡◌, ◌⊎◌, inl, inr, ℕ, zero, suc, ◌<◌, ◌≤◌, List, [], ◌∷◌, Some, true, refl, sym, ◌∙◌, ap, subst, arith, All, length, take, slice_index_or}
use Rattle.std.specs.Ordering.{MatchOrdering, nat_cmp, ordering_then}
use Rattle.std.specs.declared.cmp.Ordering.TheVariants.{Less, Equal}
use Rattle.std.proofs.lemmas.Cmp.{ranked, tied_itself}
use Rattle.std.proofs.lemmas.List.{get_or-take, length-take}
use Rattle.std.proofs.lemmas.List.Elements.{All-tail}
use Rattle.std.proofs.lemmas.Option.{same_Some}
use Rattle.moment_range.specs.declared.range.Range.{Range}
use Rattle.span_types.specs.declared.spans.Row.{Row}
use Rattle.span_types.specs.Orders.{block_order, trace_cmp, trace_order}
use Rattle.traceql_value.specs.Spans.{earliest, latest, start_of}
use Rattle.search_answer.specs.declared.traces.TraceInRange.{TraceInRange}
use Rattle.search_answer.specs.Answers.{is_in_range}
use Rattle.search_answer.specs.Walking.{FirstStarts, IsFront, IsPart, IsSorted, IsTraceOf}
use Rattle.search_answer.proofs.Fronts.{same_trace, then_less, trace_cmp_total}

no_later : (x y : ℕ) → (nat_cmp x y ≡ Less) ⊎ (nat_cmp x y ≡ Equal) → x ≤ y
no_later x y (inl e) = let l : x < y = subst (λ o. MatchOrdering o (x < y) (x ≡ y) (y < x)) e (ranked x y (nat_cmp x y) refl) in omega arith
no_later x y (inr e) = let l : x ≡ y = subst (λ o. MatchOrdering o (x < y) (x ≡ y) (y < x)) e (ranked x y (nat_cmp x y) refl) in omega arith

starts_before : (a b : Row) → b.span.trace ≡ a.span.trace → block_order a b ≡ Less → a.span.start ≤ b.span.start
starts_before a b same less =
    let tied : trace_cmp a.span.trace b.span.trace ≡ Equal = ap (trace_cmp a.span.trace) same ∙ tied_itself trace_cmp_total a.span.trace in
    let inner : trace_order a b ≡ Less = subst (λ o. ordering_then o (trace_order a b) ≡ Less) tied less in
    no_later a.span.start b.span.start (then_less (nat_cmp a.span.start b.span.start) _ inner)

pub first_starts : (rows : List Row) (n : ℕ) → 0 < n → IsFront rows n → IsSorted rows → FirstStarts (take n rows)
first_starts rows zero some front sorted = absurd (omega arith)
first_starts [] (suc n) some front sorted = tt
first_starts (r ∷ rs) (suc n) some front sorted = λ k d l.
    let low : k < n = omega (arith, length-take n rs) in
    let high : k < length rs = omega (arith, length-take n rs) in
    subst (λ (s : Row). r.span.start ≤ s.span.start) (sym (get_or-take n rs k d low))
    (starts_before r (slice_index_or rs k d) (same_trace _ r.span.trace (front.same (suc k) d (omega arith)))
    (sorted.ordered 0 (suc k) d (omega arith) (omega arith)))

earliest_bound : (m known : ℕ) (rows : List Row) → m ≤ known → All (λ s. m ≤ s.span.start) rows → m ≤ earliest known rows
earliest_bound m known [] l all = l
earliest_bound m known (r ∷ rs) l all =
    let here : m ≤ r.span.start = all 0 r (omega arith) in
    let rest : m ≤ earliest known rs = earliest_bound m known rs l (All-tail (λ s. m ≤ s.span.start) r rs all) in
    omega arith

starts_first : (r : Row) (rs : List Row) → FirstStarts (r ∷ rs) → r.span.start ≡ start_of (r ∷ rs)
starts_first r rs first =
    let bound : r.span.start ≤ earliest (latest (r ∷ rs)) rs = earliest_bound r.span.start (latest (r ∷ rs)) rs (omega arith) first in
    omega arith

-- The trace of rows of which one starts in the range.
pub part_found : (range : Range) (part : List Row) (first : Row) (t : TraceInRange) → 0 < length part → first ≡ slice_index_or part 0 first → t.rows.now ≡ part →
    t.trace ≡ first.span.trace → t.start ≡ first.span.start → FirstStarts part → is_in_range range part ≡ true → IsPart range part (Some t)
part_found range [] first t some is rows id start starts within = absurd (omega arith)
part_found range (r ∷ rs) first t some is rows id start starts within = record {
  only = λ u e. subst (IsTraceOf range (r ∷ rs)) (same_Some t u e) (record {
    rows = rows;
    first = λ d. id ∙ ap (λ (s : Row). s.span.trace) is;
    starts = start ∙ ap (λ (s : Row). s.span.start) is ∙ starts_first r rs starts;
    within = within;
  });
  whole = λ _. (t, refl);
}

-- Picks of different traces, in whatever order.
use Rattle.std.proofs.Common.{◌≡◌, List, [], ◌∷◌, Bool, true, false, refl, sym, ◌∙◌, ap, arith}
use Rattle.std.specs.List.{IsDistinct}
use Rattle.std.specs.List.Sorted.{IsPermutation}
use Rattle.std.specs.Ordering.{is_eq, ordering_reverse}
use Rattle.std.specs.declared.cmp.Ordering.{Ordering}
use Rattle.std.specs.declared.cmp.Ordering.TheVariants.{Less, Equal, Greater}
use Rattle.std.proofs.lemmas.Cmp.{tied_itself}
use Rattle.std.proofs.lemmas.List.Elements.{All-from_recursion, All-weaker, recursion_from_All}
use Rattle.std.proofs.lemmas.List.Kept.{AllPairs-cons}
use Rattle.std.proofs.lemmas.Map.Keys.{IsDistinct-IsPermutation, IsDistinct-cons, IsDistinct-head, IsDistinct-tail}
use Rattle.span_types.specs.Orders.{trace_cmp}
use Rattle.span_types.specs.declared.ids.TraceId.{TraceId}
use Rattle.column_scan.specs.Candidates.{Ascend}
use Rattle.column_scan.specs.declared.picks.Pick.{Pick}
use Rattle.search_answer.proofs.Fronts.{trace_cmp_total}
use Rattle.query_fanout.specs.Taking.{AreApart}
use Rattle.query_fanout.proofs.PicksExist.{head_first, tail_ascends}

abbrev same_traces : Pick → Pick → Bool
same_traces p q = is_eq (trace_cmp p.trace q.trace)

flips : (p q : Pick) → same_traces p q ≡ same_traces q p
flips p q = ap is_eq (trace_cmp_total.antisymm p.trace q.trace) ∙ reversed (trace_cmp q.trace p.trace)
  where
    reversed : (o : Ordering) → is_eq (ordering_reverse o) ≡ is_eq o
    reversed Less = refl
    reversed Equal = refl
    reversed Greater = refl

ascend_distinct : (picks : List Pick) → Ascend picks → IsDistinct same_traces picks
unfolding IsDistinct
ascend_distinct [] up = tt
ascend_distinct (p ∷ ps) up =
    IsDistinct-cons same_traces p ps
    (recursion_from_All (λ q. same_traces p q ≡ false) ps
    (All-weaker (λ (q : Pick). trace_cmp p.trace q.trace ≡ Less) (λ q. same_traces p q ≡ false) (λ q below. ap is_eq below) ps (head_first p ps up)))
    (ascend_distinct ps (tail_ascends p ps up))

distinct_apart : (picks : List Pick) → IsDistinct same_traces picks → AreApart picks
distinct_apart [] d = λ i j x l h. absurd (omega (arith, h))
distinct_apart (p ∷ ps) d =
    AllPairs-cons (λ (a b : Pick). a.trace ≡ b.trace → ⊥) p ps
    (All-weaker (λ q. same_traces p q ≡ false) (λ (q : Pick). p.trace ≡ q.trace → ⊥) differ ps
    (All-from_recursion (λ q. same_traces p q ≡ false) ps (IsDistinct-head same_traces p ps d)))
    (distinct_apart ps (IsDistinct-tail same_traces p ps d))
  where
    differ : (q : Pick) → same_traces p q ≡ false → p.trace ≡ q.trace → ⊥
    differ q apart same =
        let bad : true ≡ false = sym (ap (λ (t : TraceId). is_eq (trace_cmp p.trace t)) (sym same) ∙ ap is_eq (tied_itself trace_cmp_total p.trace)) ∙ apart in cc

pub parts_apart : (picks parts : List Pick) → IsPermutation picks parts → Ascend picks → AreApart parts
parts_apart picks parts moved up = distinct_apart parts (IsDistinct-IsPermutation same_traces flips picks parts moved (ascend_distinct picks up))

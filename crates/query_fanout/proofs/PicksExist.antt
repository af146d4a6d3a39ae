-- Each list of spans has picks: by insertion in the order of their traces.
use Rattle.std.proofs.Common.{◌≡◌, suc, List, [], ◌∷◌, Bool, true, false, nat_lt, refl, sym, ◌∙◌, ap, subst, arith, All, Contains, if◌then◌else◌}
use Rattle.std.specs.Ordering.{is_eq, ordering_reverse}
use Rattle.std.specs.declared.cmp.Ordering.{Ordering}
use Rattle.std.specs.declared.cmp.Ordering.TheVariants.{Less, Equal, Greater}
use Rattle.std.proofs.lemmas.List.Elements.{All-cons, All-contains, All-nil, All-weaker}
use Rattle.std.proofs.lemmas.List.Kept.{AllPairs-cons}
use Rattle.std.proofs.lemmas.List.Sorted.{IsPermutation-append_comm, IsPermutation-append_left}
use Rattle.span_types.specs.Orders.{trace_cmp}
use Rattle.span_types.specs.declared.ids.TraceId.{TraceId}
use Rattle.span_types.specs.declared.spans.Span.{Span}
use Rattle.search_answer.proofs.Fronts.{same_trace}
use Rattle.column_scan.specs.Candidates.{AreCandidates, Ascend, HaveLatest, hinted_picks}
use Rattle.column_scan.specs.Picking.{later_of}
use Rattle.column_scan.specs.declared.hints.Hint.{Hint}
use Rattle.column_scan.specs.declared.picks.Pick.{Pick}
use Rattle.column_scan.proofs.Latest.{itself, joined, of_latest, of_permutation, pick_total, with_more}
use Rattle.query_fanout.specs.Joined.{with_before}
use Rattle.query_fanout.specs.Taking.{traces_of}

-- the trace is before that of the other pick
abbrev Before : Pick → Pick → Type 0
Before p q = trace_cmp p.trace q.trace ≡ Less

pub head_first : (q : Pick) (qs : List Pick) → Ascend (q ∷ qs) → All (Before q) qs
head_first q qs up = λ k d h. up 0 (suc k) d (omega arith) (omega (arith, h))

pub tail_ascends : (q : Pick) (qs : List Pick) → Ascend (q ∷ qs) → Ascend qs
tail_ascends q qs up = λ i j d l h. up (suc i) (suc j) d (omega (arith, l)) (omega (arith, h))

none_ascend : Ascend []
none_ascend = λ i j d l h. absurd (omega (arith, h))

later_trace : (p q : Pick) → is_eq (trace_cmp p.trace q.trace) ≡ true → (b : Bool) → (if b then q else p).trace ≡ q.trace
later_trace p q same true = refl
later_trace p q same false = same_trace p.trace q.trace same

record Inserted (p : Pick) (qs : List Pick) : Type 0 where
  new : List Pick
  latest : HaveLatest (p ∷ qs) new
  ascending : Ascend new

insert_pick : (p : Pick) (qs : List Pick) → Ascend qs → Inserted p qs
insert_pick p [] up = record { new = p ∷ []; latest = itself (p ∷ []); ascending = AllPairs-cons Before p [] (All-nil (Before p)) up }
insert_pick p (q ∷ qs) up = (elim (trace_cmp p.trace q.trace) as (λ (o : Ordering). trace_cmp p.trace q.trace ≡ o → Inserted p (q ∷ qs)) [
  | Less ↦ λ t. record {
    new = p ∷ q ∷ qs;
    latest = itself (p ∷ q ∷ qs);
    ascending = AllPairs-cons Before p (q ∷ qs)
        (All-cons (Before p) q qs t (All-weaker (Before q) (Before p) (λ z below. pick_total.trans p q z t below) qs (head_first q qs up))) up;
  }
  | Equal ↦ λ t. record {
    new = later_of p q ∷ qs;
    latest = with_more (p ∷ q ∷ []) (later_of p q ∷ []) qs (joined (p ∷ []) [] (later_of p q ∷ []) p q (later_of p q) refl refl refl (ap is_eq t));
    ascending = AllPairs-cons Before (later_of p q) qs
        (subst (λ (id : TraceId). All (λ (z : Pick). trace_cmp id z.trace ≡ Less) qs) (sym (later_trace p q (ap is_eq t) (nat_lt p.latest q.latest))) (head_first q qs up))
        (tail_ascends q qs up);
  }
  | Greater ↦ λ t.
      let rest = insert_pick p qs (tail_ascends q qs up) in
      let first : All (Before q) (p ∷ qs) = All-cons (Before q) p qs (pick_total.antisymm q p ∙ ap ordering_reverse t) (head_first q qs up) in record {
        new = q ∷ rest.new;
        latest = of_permutation (p ∷ q ∷ qs) (q ∷ p ∷ qs) (q ∷ rest.new) (IsPermutation-append_left qs (p ∷ q ∷ []) (q ∷ p ∷ []) (IsPermutation-append_comm (p ∷ []) (q ∷ [])))
            (with_before (q ∷ []) (p ∷ qs) rest.new rest.latest);
        ascending = AllPairs-cons Before q rest.new
            (All-weaker (Contains (p ∷ qs)) (Before q) (λ z m. All-contains (Before q) (p ∷ qs) z first m) rest.new rest.latest.only) rest.ascending;
      }
]) refl

pub latest_exist : (all : List Pick) → (picks : List Pick) × HaveLatest all picks × Ascend picks
latest_exist [] = ([], itself [], none_ascend)
latest_exist (p ∷ all) =
    let rest = latest_exist all in
    let one = insert_pick p rest.0 rest.2 in
    (one.new, of_latest (p ∷ all) (p ∷ rest.0) one.new (with_before (p ∷ []) all rest.0 rest.1) one.latest, one.ascending)

pub candidates_exist : (hint : Hint) (spans : List Span) → (ids : List TraceId) × AreCandidates hint spans ids
candidates_exist hint spans =
    let some = latest_exist (hinted_picks hint spans) in
    (traces_of some.0, (some.0, record { latest = some.1; ascending = some.2 }, refl))

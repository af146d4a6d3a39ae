-- The best results stay.
use Rattle.std.proofs.Common.{◌≡◌, inl, inr, ℕ, ◌+◌, ◌-◌, ◌<◌, ◌≤◌, ◌==◌, List, [], ◌∷◌, ◌++◌, Bool, true, false, Some, nat_lt, refl, sym, ◌∙◌, ap, subst, arith, All, length, drop, slice_index_or, append_assoc}
use Rattle.std.specs.Cmp.{IsStrictWeakOrder}
use Rattle.std.specs.List.{AllByRecursion}
use Rattle.std.specs.List.Sorted.{IsPermutation, IsSorted}
use Rattle.std.specs.Prelude.{slice_get}
use Rattle.std.specs.Ordering.{is_lt}
use Rattle.std.proofs.lemmas.Bool.{and_parts, cases_lt, eq-eqb, eqb-true, le-ltb, lt-ltb, ltb-true}
use Rattle.std.proofs.lemmas.Option.{slice_get-get_or}
use Rattle.std.proofs.lemmas.List.{get_or-drop, get_or-take, get_or_default, length-drop, length-take, take-append-drop, take-append-le, take_all}
use Rattle.std.proofs.lemmas.List.Elements.{All-append, All-from_recursion, recursion_from_All}
use Rattle.std.proofs.lemmas.List.Sorted.{All-permutation, IsPermutation-append_left, IsPermutation-append_right, IsPermutation-trans, ranks_by, sorted_far}
use Rattle.spanset_eval.specs.declared.results.TraceResult.{TraceResult}
use Rattle.spanset_eval.specs.Ranking.{AreFirst, rank_cmp}
use Rattle.span_types.specs.Orders.{trace_cmp}
use Rattle.span_types.specs.declared.ids.TraceId.{TraceId}
use Rattle.search_answer.specs.Best.{FirstStays, NoneGoesBefore}
use Rattle.search_answer.specs.Keeping.{ranks_after}
use Rattle.search_answer.proofs.RankLaws.{rank_total}
use Rattle.search_answer.proofs.Sorting.{NotBefore, Pairs, pairs_append, pairs_at, sorted_of, sorted_pairs}

module _ (limit : ℕ) (results others best : List TraceResult) (are : AreFirst results limit best) (full : length best ≡ limit) (after_best : NoneGoesBefore best others) where
  abbrev before : TraceResult → TraceResult → Bool
  before r s = is_lt (rank_cmp r s)

  order : IsStrictWeakOrder before
  order = ranks_by rank_total (λ r. r)

  abbrev rest : List TraceResult
  rest = drop limit are.all ++ others

  halves : are.all ≡ best ++ drop limit are.all
  halves = sym (take-append-drop limit are.all) ∙ ap (λ l. l ++ drop limit are.all) (sym are.first_are)

  -- all results are the best and those after them
  parted : IsPermutation (results ++ others) (best ++ rest)
  parted = subst (λ l. IsPermutation (results ++ others) l) (ap (λ l. l ++ others) halves ∙ append_assoc best (drop limit are.all) others)
      (IsPermutation-append_left others results are.all are.same)

  at : (j : ℕ) (d : TraceResult) → j < length best → slice_index_or best j d ≡ slice_index_or are.all j d
  at j d h = ap (λ zs. slice_index_or zs j d) are.first_are ∙ get_or-take limit are.all j d (omega (arith, full))

  there : (j : ℕ) → j < length best → j < length are.all
  there j h = let e = ap length are.first_are in let t = length-take limit are.all in omega arith

  best_pairs : Pairs (NotBefore before) best
  best_pairs = sorted_pairs before best (λ i j d l h.
      subst (λ u. before u (slice_index_or best i d) ≡ false) (sym (at j d h))
      (subst (λ u. before (slice_index_or are.all j d) u ≡ false) (sym (at i d (omega arith)))
      (sorted_far before order are.all are.sorted i j d (omega arith) (there j h))))

  own : (i : ℕ) (d : TraceResult) → i < length best → (j : ℕ) (e : TraceResult) → j < length (drop limit are.all) → NotBefore before (slice_index_or best i d) (slice_index_or (drop limit are.all) j e)
  own i d l j e h =
      let long : limit + j < length are.all = omega (arith, length-drop limit are.all) in
      let far : before (slice_index_or are.all (limit + j) d) (slice_index_or are.all i d) ≡ false = sorted_far before order are.all are.sorted i (limit + j) d (omega (arith, full)) long in
      let w_is : slice_index_or are.all (limit + j) d ≡ slice_index_or (drop limit are.all) j e = get_or_default are.all (limit + j) d e long ∙ sym (get_or-drop limit are.all j e) in
      subst (λ z. before (slice_index_or (drop limit are.all) j e) z ≡ false) (sym (at i d l)) (subst (λ w. before w (slice_index_or are.all i d) ≡ false) w_is far)

  none_goes : (i : ℕ) (d : TraceResult) → i < length best → All (NotBefore before (slice_index_or best i d)) rest
  none_goes i d l = All-append (NotBefore before (slice_index_or best i d)) (drop limit are.all) others (λ j e h. own i d l j e h)
      (All-from_recursion (NotBefore before (slice_index_or best i d)) others (All-from_recursion (λ r. AllByRecursion (λ s. before s r ≡ false) others) best after_best i d l))

pub stays : FirstStays
stays limit results others best are full after_best =
    let before = λ (r s : TraceResult). is_lt (rank_cmp r s) in
    let order = ranks_by rank_total (λ (r : TraceResult). r) in
    let others_in_order = sorted_of before order (rest limit results others best are full after_best) in
    let pairs : Pairs (NotBefore before) (best ++ others_in_order.all) = pairs_append (NotBefore before) best others_in_order.all (best_pairs limit results others best are full after_best) others_in_order.pairs
    (recursion_from_All (λ z. AllByRecursion (NotBefore before z) others_in_order.all) best (λ i d l.
    recursion_from_All (NotBefore before (slice_index_or best i d)) others_in_order.all
    (All-permutation (NotBefore before (slice_index_or best i d)) (rest limit results others best are full after_best) others_in_order.all others_in_order.same (none_goes limit results others best are full after_best i d l)))) in
    record {
      all = best ++ others_in_order.all;
      same = IsPermutation-trans (results ++ others) (best ++ rest limit results others best are full after_best) (best ++ others_in_order.all) (parted limit results others best are full after_best)
          (IsPermutation-append_right best (rest limit results others best are full after_best) others_in_order.all others_in_order.same);
      sorted = λ k d low high. pairs_at (NotBefore before) (best ++ others_in_order.all) pairs k (k + 1) d (omega arith) high;
      first_are = sym (take-append-le limit best others_in_order.all (omega (arith, full)) ∙ take_all limit best (omega (arith, full)));
    }

-- ---- what is kept out

less_by_start : (r last : TraceResult) → r.start < last.start → is_lt (rank_cmp last r) ≡ true
less_by_start r last low = rw (lt-ltb r.start last.start low) refl

less_by_trace : (r last : TraceResult) → r.start ≡ last.start → is_lt (trace_cmp last.trace r.trace) ≡ true → is_lt (rank_cmp last r) ≡ true
less_by_trace r last same low =
    let none : nat_lt r.start last.start ≡ false = le-ltb r.start last.start (omega (arith, same)) in
    let equal : (r.start == last.start) ≡ true = eq-eqb r.start last.start same in
    rw (none, equal) low

ranks_before : (trace : TraceId) (latest : ℕ) (last r : TraceResult) → ranks_after trace latest last ≡ true → r.trace ≡ trace → r.start ≤ latest → is_lt (rank_cmp last r) ≡ true
ranks_before trace latest last r stands same early = (elim (nat_lt latest last.start) as (λ b. nat_lt latest last.start ≡ b → is_lt (rank_cmp last r) ≡ true) [
  | true ↦ λ t. less_by_start r last (omega (arith, early, ltb-true latest last.start t))
  | false ↦ λ t.
      let both = and_parts (last.start == latest) (is_lt (trace_cmp last.trace trace)) (rw t at stands) in
      let equal : last.start ≡ latest = eqb-true last.start latest both.0 in
      let low : is_lt (trace_cmp last.trace r.trace) ≡ true = subst (λ z. is_lt (trace_cmp last.trace z) ≡ true) (sym same) both.1 in
      elim (cases_lt r.start last.start) [
        | inl below ↦ less_by_start r last below
        | inr above ↦ less_by_trace r last (omega (arith, early, equal, above)) low
      ]
]) refl

some_there : (xs : List TraceResult) (i : ℕ) (x : TraceResult) → slice_get xs i ≡ Some x → 0 < length xs
some_there [] i x is = cc
some_there (y ∷ ys) i x is = omega arith

-- the last of the best stands before the result, so each does
pub kept_out : (kept : List TraceResult) (trace : TraceId) (latest : ℕ) (last r : TraceResult) → IsSorted rank_cmp kept → slice_get kept (length kept - 1) ≡ Some last
    → ranks_after trace latest last ≡ true → r.trace ≡ trace → r.start ≤ latest → NoneGoesBefore kept (r ∷ [])
kept_out kept trace latest last r sorted is stands same early =
    let some = some_there kept (length kept - 1) last is in
    let before = λ (a b : TraceResult). is_lt (rank_cmp a b) in
    let order = ranks_by rank_total (λ (a : TraceResult). a) in
    let later : is_lt (rank_cmp r last) ≡ false = order.one_way last r (ranks_before trace latest last r stands same early) in
    recursion_from_All (λ x. AllByRecursion (λ s. is_lt (rank_cmp s x) ≡ false) (r ∷ [])) kept (λ k d low.
    let there : slice_index_or kept (length kept - 1) d ≡ last = inside (slice_index_or kept (length kept - 1) d) last (sym (slice_get-get_or kept (length kept - 1) d (omega (arith, some))) ∙ is) in
    let far : is_lt (rank_cmp (slice_index_or kept (length kept - 1) d) (slice_index_or kept k d)) ≡ false = sorted_far before order kept sorted k (length kept - 1) d (omega (arith, low)) (omega (arith, some)) in
    (order.chain r last (slice_index_or kept k d) later (subst (λ z. is_lt (rank_cmp z (slice_index_or kept k d)) ≡ false) there far), tt))
  where
    inside : (a b : TraceResult) → Some a ≡ Some b → a ≡ b
    inside a b e = cc

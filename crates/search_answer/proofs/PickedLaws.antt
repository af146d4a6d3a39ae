-- The first occurrences of picked traces answer as those of all rows do.
use Rattle.std.proofs.Common.{◌≡◌, ◌⊎◌, inl, inr, zero, suc, List, [], ◌∷◌, Bool, true, false, Some, refl, sym, ◌∙◌, ap, subst, arith, Contains, slice_index_or}
use Rattle.std.specs.List.{AllByRecursion, AllPairs}
use Rattle.std.specs.Ordering.{ordering_reverse}
use Rattle.std.specs.declared.cmp.Ordering.TheVariants.{Less, Greater}
use Rattle.std.proofs.lemmas.List.Elements.{All-contains, All-from_recursion, All-nil, recursion_from_All}
use Rattle.moment_range.specs.declared.range.Range.{Range}
use Rattle.rows_by_trace.specs.Traces.{is_of_trace, rows_of_trace}
use Rattle.rows_by_trace.proofs.TraceLaws.{all_pairs, trace_of_firsts}
use Rattle.span_types.specs.First.{IsFirstOf, first_at}
use Rattle.span_types.specs.Keys.{row_key}
use Rattle.span_types.specs.Orders.{block_order}
use Rattle.span_types.specs.declared.ids.TraceId.{TraceId}
use Rattle.span_types.specs.declared.spans.Row.{Row}
use Rattle.span_types.proofs.FirstLaws.{block_order_total}
use Rattle.spanset_eval.specs.declared.results.TraceResult.{TraceResult}
use Rattle.traceql_syntax.specs.Trees.{QueryTree}
use Rattle.traceql_types.specs.declared.pattern.Pattern.{Pattern}
use Rattle.search_answer.specs.Answers.{AreResults, IsResult, is_in_range}
use Rattle.search_answer.specs.Best.{PickedAnswerTheWhole, rows_of_picked}
use Rattle.search_answer.proofs.Fronts.{same_trace}

-- ---- two lists of the same rows in block order are one

abbrev Strict : List Row → Type 0
Strict [] = Unit {0}
Strict (x ∷ xs) = AllByRecursion (λ y. block_order x y ≡ Less) xs × Strict xs

strict_from : (xs : List Row) → AllPairs (λ a b. block_order a b ≡ Less) xs → Strict xs
strict_from [] pairs = tt
strict_from (x ∷ xs) pairs = (
  recursion_from_All (λ y. block_order x y ≡ Less) xs (λ k d l. pairs 0 (suc k) d (omega arith) (omega arith)),
  strict_from xs (λ i j d l h. pairs (suc i) (suc j) d (omega arith) (omega arith)),
)

first_or_later : (x : Row) (xs : List Row) (r : Row) → Contains (x ∷ xs) r → (x ≡ r) ⊎ Contains xs r
first_or_later x xs r (zero, low, is) = inl is
first_or_later x xs r (suc k, low, is) = inr (k, omega (arith, low), is)

here : (x : Row) (xs : List Row) → Contains (x ∷ xs) x
here x xs = (0, omega arith, refl)

later : (x : Row) (xs : List Row) (r : Row) → Contains xs r → Contains (x ∷ xs) r
later x xs r m = (suc m.0, omega (arith, m.1), m.2)

comes_after : (x : Row) (xs : List Row) (r : Row) → AllByRecursion (λ y. block_order x y ≡ Less) xs → Contains xs r → block_order x r ≡ Less
comes_after x xs r all m = All-contains (λ y. block_order x y ≡ Less) xs r (All-from_recursion (λ y. block_order x y ≡ Less) xs all) m

not_both : (x y : Row) → block_order x y ≡ Less → block_order y x ≡ Less → ⊥
not_both x y one two = let e : Less ≡ Greater = sym one ∙ block_order_total.antisymm x y ∙ ap ordering_reverse two in cc

abbrev Within : List Row → List Row → Type 0
Within xs ys = (r : Row) → Contains xs r → Contains ys r

same_head : (x y : Row) (xs ys : List Row) → Strict (x ∷ xs) → Strict (y ∷ ys) → Within (x ∷ xs) (y ∷ ys) → Within (y ∷ ys) (x ∷ xs) → x ≡ y
same_head x y xs ys one two left right = elim (first_or_later y ys x (left x (here x xs))) [
  | inl e ↦ sym e
  | inr m ↦ elim (first_or_later x xs y (right y (here y ys))) [
    | inl e ↦ e
    | inr n ↦ absurd (not_both x y (comes_after x xs y one.0 n) (comes_after y ys x two.0 m))
  ]
]

rest_within : (x y : Row) (xs ys : List Row) → Strict (x ∷ xs) → x ≡ y → Within (x ∷ xs) (y ∷ ys) → Within xs ys
rest_within x y xs ys one same left r m = elim (first_or_later y ys r (left r (later x xs r m))) [
  | inl e ↦ let less = comes_after x xs r one.0 m in let own : block_order r r ≡ Less = subst (λ z. block_order z r ≡ Less) (same ∙ e) less in absurd (not_both r r own own)
  | inr n ↦ n
]

one_list : (xs ys : List Row) → Strict xs → Strict ys → Within xs ys → Within ys xs → xs ≡ ys
one_list [] [] one two left right = refl
one_list [] (y ∷ ys) one two left right = let m = right y (here y ys) in let low = m.1 in absurd (omega (arith, low))
one_list (x ∷ xs) [] one two left right = let m = left x (here x xs) in let low = m.1 in absurd (omega (arith, low))
one_list (x ∷ xs) (y ∷ ys) one two left right =
    let same = same_head x y xs ys one two left right in
    let rest = one_list xs ys one.1 two.1 (rest_within x y xs ys one same left) (rest_within y x ys xs two (sym same) right) in
    ap (λ z. z ∷ xs) same ∙ ap (λ l. y ∷ l) rest

-- Rows have one list of first occurrences.
pub firsts_are_one : (rows a b : List Row) → IsFirstOf rows a → IsFirstOf rows b → a ≡ b
firsts_are_one rows a b one two = one_list a b (strict_from a (all_pairs a one.ordered)) (strict_from b (all_pairs b two.ordered)) (within a b one two) (within b a two one)
  where
    within : (a b : List Row) → IsFirstOf rows a → IsFirstOf rows b → Within a b
    within a b one two r m = two.whole (row_key r) r (All-contains (λ x. first_at (row_key x) rows ≡ Some x) a r one.only m)

none_of_none : IsFirstOf [] []
none_of_none = record { only = All-nil (λ x. first_at (row_key x) [] ≡ Some x); whole = λ k r is. cc; ordered = λ k d low. absurd (omega (arith, low)) }

-- ---- the rows of a picked trace

module _ (is_picked : TraceId → Bool) (id : TraceId) where
  pub picked_rows : (rows : List Row) → is_picked id ≡ true → rows_of_trace id (rows_of_picked is_picked rows) ≡ rows_of_trace id rows
  picked_rows [] held = refl
  picked_rows (row ∷ rows) held = (elim (is_of_trace id row) as (λ b. is_of_trace id row ≡ b → rows_of_trace id (rows_of_picked is_picked (row ∷ rows)) ≡ rows_of_trace id (row ∷ rows)) [
    | true ↦ λ t. let kept : is_picked row.span.trace ≡ true = ap is_picked (same_trace row.span.trace id t) ∙ held in rw (kept, t) (ap (λ l. row ∷ l) (picked_rows rows held))
    | false ↦ λ t. (elim (is_picked row.span.trace) as (λ b. is_picked row.span.trace ≡ b → rows_of_trace id (rows_of_picked is_picked (row ∷ rows)) ≡ rows_of_trace id (row ∷ rows)) [
      | true ↦ λ p. rw (p, t) (picked_rows rows held)
      | false ↦ λ p. rw (p, t) (picked_rows rows held)
    ]) refl
  ]) refl

  pub other_rows : (rows : List Row) → is_picked id ≡ false → rows_of_trace id (rows_of_picked is_picked rows) ≡ []
  other_rows [] fails = refl
  other_rows (row ∷ rows) fails = (elim (is_picked row.span.trace) as (λ b. is_picked row.span.trace ≡ b → rows_of_trace id (rows_of_picked is_picked (row ∷ rows)) ≡ []) [
    | true ↦ λ p. (elim (is_of_trace id row) as (λ b. is_of_trace id row ≡ b → rows_of_trace id (rows_of_picked is_picked (row ∷ rows)) ≡ []) [
      | true ↦ λ t. let bad : true ≡ false = sym p ∙ ap is_picked (same_trace row.span.trace id t) ∙ fails in cc
      | false ↦ λ t. rw (p, t) (other_rows rows fails)
    ]) refl
    | false ↦ λ p. rw p (other_rows rows fails)
  ]) refl

module _ (ps : List Pattern) (q : QueryTree) (range : Range) (rows firsts few : List Row) (is_picked : TraceId → Bool) (whole : IsFirstOf rows firsts) (part : IsFirstOf (rows_of_picked is_picked rows) few)
    (answered : (id : TraceId) (r : TraceResult) → IsResult ps q range (rows_of_trace id firsts) r → is_picked id ≡ true) where
  alike : (id : TraceId) → is_picked id ≡ true → rows_of_trace id few ≡ rows_of_trace id firsts
  alike id held = firsts_are_one (rows_of_trace id rows) (rows_of_trace id few) (rows_of_trace id firsts)
      (subst (λ l. IsFirstOf l (rows_of_trace id few)) (picked_rows is_picked id rows held) (trace_of_firsts id (rows_of_picked is_picked rows) few part)) (trace_of_firsts id rows firsts whole)

  empty : (id : TraceId) → is_picked id ≡ false → rows_of_trace id few ≡ []
  empty id fails = firsts_are_one [] (rows_of_trace id few) []
      (subst (λ l. IsFirstOf l (rows_of_trace id few)) (other_rows is_picked id rows fails) (trace_of_firsts id (rows_of_picked is_picked rows) few part)) none_of_none

  of_whole : (id : TraceId) (r : TraceResult) → IsResult ps q range (rows_of_trace id few) r → IsResult ps q range (rows_of_trace id firsts) r
  of_whole id r is = (elim (is_picked id) as (λ b. is_picked id ≡ b → IsResult ps q range (rows_of_trace id firsts) r) [
    | true ↦ λ held. subst (λ l. IsResult ps q range l r) (alike id held) is
    | false ↦ λ fails. let bad : false ≡ true = sym (ap (is_in_range range) (empty id fails)) ∙ is.within in cc
  ]) refl

  pub results : (all : List TraceResult) → AreResults ps q range few all → AreResults ps q range firsts all
  results all are = record {
    only = λ k d low. of_whole (slice_index_or all k d).trace (slice_index_or all k d) (are.only k d low);
    whole = λ id r is. are.whole id r (subst (λ l. IsResult ps q range l r) (sym (alike id (answered id r is))) is);
    once = are.once;
  }

pub picked_answer : PickedAnswerTheWhole
picked_answer ps q range limit most rows firsts few is_picked answer whole part answered is = record {
  all = is.all;
  results = results ps q range rows firsts few is_picked whole part answered is.all is.results;
  first = is.first;
  ranked = is.ranked;
  is = is.is;
}

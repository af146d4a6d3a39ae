-- The order of lists of values.
use Rattle.std.proofs.Common.{◌≡◌, ℕ, zero, suc, ◌+◌, ◌<◌, min, List, [], ◌∷◌, ◌∙◌, refl, ap, arith, true, false, map, length, drop, slice_index_or}
use Rattle.std.specs.Cmp.{IsTotalOrder, IsEquivalence, nat_cmp_is}
use Rattle.std.specs.List.{AllByRecursion}
use Rattle.std.specs.List.Sorted.{IsStrictlySortedBy}
use Rattle.std.specs.Ordering.{is_eq, is_ne, nat_cmp, on, ordering_then, MatchOrdering}
use Rattle.std.specs.declared.cmp.Ordering.{Ordering}
use Rattle.std.specs.declared.cmp.Ordering.TheVariants.{Less, Equal, Greater}
use Rattle.std.proofs.lemmas.Cmp.{lists_total, on_total, eq_by_cmp_equiv, ranked}
use Rattle.std.proofs.lemmas.List.{drop_more}
use Rattle.traceql_value.specs.Values.{value_cmp}
use Rattle.traceql_value.specs.declared.value.Value.{Value}
use Rattle.traceql_value.proofs.Orders.{value_cmp_total}
use Rattle.traceql_metrics.specs.Grouping.{by_of, same_values}
use Rattle.traceql_metrics.specs.Series.{values_cmp}

pub values_total : IsTotalOrder values_cmp
values_total = lists_total value_cmp_total

pub sets_total : IsTotalOrder (on by_of values_cmp)
sets_total = on_total by_of values_total

pub same_values_equiv : IsEquivalence same_values
same_values_equiv = eq_by_cmp_equiv sets_total

pub equals : (o : Ordering) → is_eq o ≡ true → o ≡ Equal
equals Less h = cc
equals Equal h = refl
equals Greater h = cc

all_map : {A K : Type 0} (f : A → K) (P : K → Type 0) (xs : List A) → AllByRecursion (λ x. P (f x)) xs → AllByRecursion P (map f xs)
all_map f P [] h = tt
all_map f P (x ∷ xs) h = (h.0, all_map f P xs h.1)

-- a list in order by a key has its keys in order
pub keys_in_order : {A K : Type 0} (f : A → K) (c : K → K → Ordering) (xs : List A) → IsStrictlySortedBy (on f c) xs → IsStrictlySortedBy c (map f xs)
unfolding IsStrictlySortedBy
keys_in_order f c [] h = tt
keys_in_order f c (x ∷ xs) h = (all_map f (λ k. c (f x) k ≡ Less) xs h.0, keys_in_order f c xs h.1)

-- one pair more of two lists
pub values_more : (xs ys : List Value) (i : ℕ) (d e : Value) → i < length xs → i < length ys →
    values_cmp (drop i xs) (drop i ys) ≡ ordering_then (value_cmp (slice_index_or xs i d) (slice_index_or ys i e)) (values_cmp (drop (i + 1) xs) (drop (i + 1) ys))
values_more xs ys i d e p q =
    ap (λ l. values_cmp l (drop i ys)) (drop_more xs i d p) ∙ ap (λ l. values_cmp (slice_index_or xs i d ∷ drop (i + 1) xs) l) (drop_more ys i e q)

pub decided : (o p : Ordering) → is_ne o ≡ true → ordering_then o p ≡ o
decided Less p h = refl
decided Equal p h = cc
decided Greater p h = refl

pub undecided : (o p : Ordering) → is_ne o ≡ false → ordering_then o p ≡ p
undecided Less p h = cc
undecided Equal p h = refl
undecided Greater p h = cc

-- where one list ends the lengths decide
pub values_end : (xs ys : List Value) (i : ℕ) → i ≡ min (length xs) (length ys) → values_cmp (drop i xs) (drop i ys) ≡ nat_cmp (length xs) (length ys)
values_end [] [] zero e = refl
values_end [] [] (suc i) e = absurd (omega (arith, e))
values_end [] (y ∷ ys) zero e = nat_cmp_is 0 (suc (length ys)) Less (omega arith)
values_end [] (y ∷ ys) (suc i) e = absurd (omega (arith, e))
values_end (x ∷ xs) [] zero e = nat_cmp_is (suc (length xs)) 0 Greater (omega arith)
values_end (x ∷ xs) [] (suc i) e = absurd (omega (arith, e))
values_end (x ∷ xs) (y ∷ ys) zero e = absurd (omega (arith, e))
values_end (x ∷ xs) (y ∷ ys) (suc i) e =
    values_end xs ys i (omega (arith, e)) ∙ nat_cmp_is (suc (length xs)) (suc (length ys)) (nat_cmp (length xs) (length ys)) (higher (length xs) (length ys) (nat_cmp (length xs) (length ys)) (ranked (length xs) (length ys) (nat_cmp (length xs) (length ys)) refl))
  where
    higher : (m n : ℕ) (o : Ordering) → MatchOrdering o (m < n) (m ≡ n) (n < m) → MatchOrdering o (suc m < suc n) (suc m ≡ suc n) (suc n < suc m)
    higher m n Less h = omega (arith, h)
    higher m n Equal h = ap suc h
    higher m n Greater h = omega (arith, h)

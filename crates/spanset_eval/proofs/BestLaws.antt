-- The least and the greatest of numbers.
use Rattle.std.proofs.Common.{◌≡◌, ℤ, List, [], ◌∷◌, Bool, true, false, cond, refl, sym, ap, ◌∙◌, subst, ◌⊎◌, inl, inr, arith, Contains, IfSome}
use Rattle.std.specs.Prelude.{◌<ℤ◌, ◌≤ℤ◌}
use Rattle.std.specs.Cmp.{int_ranks}
use Rattle.std.specs.Ordering.{int_cmp, is_lt, is_gt, MatchOrdering}
use Rattle.std.specs.declared.cmp.Ordering.{Ordering}
use Rattle.std.specs.declared.cmp.Ordering.TheVariants.{Less, Equal, Greater}
use Rattle.std.proofs.lemmas.Int.{ints}
use Rattle.traceql_syntax.specs.declared.query.AggregateOp.TheVariants as aggregate
use Rattle.spanset_eval.specs.Laws.{IsLeast, IsGreatest}
use Rattle.spanset_eval.specs.Stages.{amount_of, least_of, greatest_of}
use Rattle.spanset_eval.proofs.Membership.{In, in_of, of_in}

-- one of them, and a bound of all
abbrev Best : (ℤ → ℤ → Type 0) → ℤ → List ℤ → Type 0
Best R b ns = In b ns × ((m : ℤ) → In m ns → R b m)

-- of two firsts the better one was taken
best_more : (R : ℤ → ℤ → Type 0) → ((a b c : ℤ) → R a b → R b c → R a c) → (b first other : ℤ) (ns : List ℤ) → R first other → Best R b (first ∷ ns) → Best R b (first ∷ other ∷ ns)
best_more R trans b first other ns r h = (
  elim h.0 as (λ _. In b (first ∷ other ∷ ns)) [ inl e ↦ inl e | inr m ↦ inr (inr m) ],
  λ m i. elim i as (λ _. R b m) [
    | inl e ↦ h.1 m (inl e)
    | inr j ↦ elim j as (λ _. R b m) [
      | inl e ↦ subst (R b) e (trans b first other (h.1 first (inl refl)) r)
      | inr k ↦ h.1 m (inr k)
    ]
  ],
)

best_moved : (R : ℤ → ℤ → Type 0) (b first other : ℤ) (ns : List ℤ) → Best R b (first ∷ other ∷ ns) → Best R b (other ∷ first ∷ ns)
best_moved R b first other ns h = (swap b first other h.0, λ m i. h.1 m (swap m other first i))
  where
    swap : (x a c : ℤ) → In x (a ∷ c ∷ ns) → In x (c ∷ a ∷ ns)
    swap x a c i = elim i as (λ _. In x (c ∷ a ∷ ns)) [
      | inl e ↦ inr (inl e)
      | inr j ↦ elim j as (λ _. In x (c ∷ a ∷ ns)) [ inl e ↦ inl e | inr k ↦ inr (inr k) ]
    ]

abbrev AtMost : ℤ → ℤ → Type 0
AtMost a b = a ≤ℤ b

abbrev AtLeast : ℤ → ℤ → Type 0
AtLeast a b = b ≤ℤ a

least_is : (n : ℤ) (ns : List ℤ) → Best AtMost (least_of n ns) (n ∷ ns)
least_is n [] = (inl refl, λ m i. elim i as (λ _. n ≤ℤ m) [ inl e ↦ omega (arith, ints) | inr f ↦ absurd f ])
least_is n (m ∷ ms) = by (int_cmp m n) (int_ranks m n) (least_is m ms) (least_is n ms)
  where
    trans : (a b c : ℤ) → a ≤ℤ b → b ≤ℤ c → a ≤ℤ c
    trans a b c p q = omega (arith, ints)

    by : (o : Ordering) → MatchOrdering o (m <ℤ n) (m ≡ n) (n <ℤ m) → Best AtMost (least_of m ms) (m ∷ ms) → Best AtMost (least_of n ms) (n ∷ ms) → Best AtMost (cond (is_lt o) (least_of m ms) (least_of n ms)) (n ∷ m ∷ ms)
    by Less l p q = best_moved AtMost (least_of m ms) m n ms (best_more AtMost trans (least_of m ms) m n ms (omega (arith, ints)) p)
    by Equal e p q = best_more AtMost trans (least_of n ms) n m ms (omega (arith, ints)) q
    by Greater l p q = best_more AtMost trans (least_of n ms) n m ms (omega (arith, ints)) q

greatest_is : (n : ℤ) (ns : List ℤ) → Best AtLeast (greatest_of n ns) (n ∷ ns)
greatest_is n [] = (inl refl, λ m i. elim i as (λ _. m ≤ℤ n) [ inl e ↦ omega (arith, ints) | inr f ↦ absurd f ])
greatest_is n (m ∷ ms) = by (int_cmp m n) (int_ranks m n) (greatest_is m ms) (greatest_is n ms)
  where
    trans : (a b c : ℤ) → b ≤ℤ a → c ≤ℤ b → c ≤ℤ a
    trans a b c p q = omega (arith, ints)

    by : (o : Ordering) → MatchOrdering o (m <ℤ n) (m ≡ n) (n <ℤ m) → Best AtLeast (greatest_of m ms) (m ∷ ms) → Best AtLeast (greatest_of n ms) (n ∷ ms) → Best AtLeast (cond (is_gt o) (greatest_of m ms) (greatest_of n ms)) (n ∷ m ∷ ms)
    by Less l p q = best_more AtLeast trans (greatest_of n ms) n m ms (omega (arith, ints)) q
    by Equal e p q = best_more AtLeast trans (greatest_of n ms) n m ms (omega (arith, ints)) q
    by Greater l p q = best_moved AtLeast (greatest_of m ms) m n ms (best_more AtLeast trans (greatest_of m ms) m n ms (omega (arith, ints)) p)

pub least_law : (ns : List ℤ) → IfSome (amount_of aggregate.Least ns) (IsLeast ns)
least_law [] = tt
least_law (n ∷ ns) = let h = least_is n ns in
    record { whole = refl; member = of_in (n ∷ ns) (least_of n ns) h.0; bound = λ m i. h.1 m (in_of (n ∷ ns) m i) }

pub greatest_law : (ns : List ℤ) → IfSome (amount_of aggregate.Greatest ns) (IsGreatest ns)
greatest_law [] = tt
greatest_law (n ∷ ns) = let h = greatest_is n ns in
    record { whole = refl; member = of_in (n ∷ ns) (greatest_of n ns) h.0; bound = λ m i. h.1 m (in_of (n ∷ ns) m i) }

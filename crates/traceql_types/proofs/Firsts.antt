-- Which refusal of two lists is the first one.
use Rattle.std.proofs.Common.{◌≡◌, ℕ, ◌<◌, ◌≤◌, ◌⊎◌, inl, inr, List, [], ◌++◌, Option, Some, None, refl, rules, arith}
use Rattle.std.proofs.lemmas.List.Elements.{All-append, All-weaker, All-cons, All-nil, Contains-append_left, Contains-append_right}
use Rattle.traceql_types.specs.declared.errors.TypeError.{TypeError}
use Rattle.traceql_types.specs.Order.{place, number, Precedes, IsFirst, IsFirstOf, listed}

-- the order, on places and numbers alone
pub order_trans : (p q r k l m : ℕ) → (p < q) ⊎ ((p ≡ q) × (k ≤ l)) → (q < r) ⊎ ((q ≡ r) × (l ≤ m)) → (p < r) ⊎ ((p ≡ r) × (k ≤ m))
order_trans p q r k l m (inl a) (inl b) = inl (omega arith)
order_trans p q r k l m (inl a) (inr b) = inl (omega arith)
order_trans p q r k l m (inr a) (inl b) = inl (omega arith)
order_trans p q r k l m (inr a) (inr b) = inr (omega arith, omega arith)

pub order_total : (p q k l : ℕ) → ((p < q) ⊎ ((p ≡ q) × (k ≤ l)) → ⊥) → (q < p) ⊎ ((q ≡ p) × (l ≤ k))
order_total p q k l against = grind arith

pub order_same : (p k : ℕ) → (p < p) ⊎ ((p ≡ p) × (k ≤ k))
order_same p k = inr (refl, omega arith)

pub precedes_trans : (a b c : TypeError) → Precedes a b → Precedes b c → Precedes a c
precedes_trans a b c = order_trans (place a) (place b) (place c) (number a) (number b) (number c)

pub precedes_total : (a b : TypeError) → (Precedes a b → ⊥) → Precedes b a
precedes_total a b = order_total (place a) (place b) (number a) (number b)

pub precedes_self : (a : TypeError) → Precedes a a
precedes_self a = order_same (place a) (number a)

pub first-left : (xs ys : List TypeError) (a b : TypeError) → Precedes a b → IsFirst xs a → IsFirst ys b → IsFirst (xs ++ ys) a
first-left xs ys a b h fa fb = record {
  among = Contains-append_left xs ys a fa.among;
  before = All-append (Precedes a) xs ys fa.before (All-weaker (Precedes b) (Precedes a) (λ c. precedes_trans a b c h) ys fb.before);
}

pub first-right : (xs ys : List TypeError) (a b : TypeError) → Precedes b a → IsFirst xs a → IsFirst ys b → IsFirst (xs ++ ys) b
first-right xs ys a b h fa fb = record {
  among = Contains-append_right xs ys b fb.among;
  before = All-append (Precedes b) xs ys (All-weaker (Precedes a) (Precedes b) (λ c. precedes_trans b a c h) xs fa.before) fb.before;
}

-- the first of at most one refusal
pub first-listed : (o : Option TypeError) → IsFirstOf (listed o) o
first-listed None = refl
first-listed (Some a) = record {
  among = search rules;
  before = All-cons (Precedes a) a [] (precedes_self a) (All-nil (Precedes a));
}

pub first-listed_same : (o r : Option TypeError) → r ≡ o → IsFirstOf (listed o) r
first-listed_same o r e = rw e (first-listed o)

-- The root is the first of the spans without a parent; start and end are the least and the greatest moment.
use Rattle.std.proofs.Common.{◌≡◌, ◌≢◌, ℕ, zero, suc, ◌<◌, ◌≤◌, ◌+◌, min, max, List, [], ◌∷◌, Option, None, Some, Bool, true, false, cond, refl, sym, ap, ◌∙◌, subst, ◌⊎◌, inl, inr, arith, length, get_or, Contains, IfSome}
use Rattle.std.specs.Cmp.{IsTotalOrder}
use Rattle.std.specs.Ordering.{is_lt, is_gt, nat_cmp, ordering_then, ordering_reverse}
use Rattle.std.specs.declared.cmp.Ordering.{Ordering}
use Rattle.std.specs.declared.cmp.Ordering.TheVariants.{Less, Equal, Greater}
use Rattle.std.proofs.lemmas.Cmp.{then_total, on_total, nat_cmp_total, nat_list_cmp_total, upto, tied_itself}
use Rattle.std.proofs.lemmas.Bool.{cases_lt}
use Rattle.std.proofs.lemmas.Map.Lookups.{exact_bytes}
use Rattle.span_types.specs.declared.ids.SpanId.{SpanId}
use Rattle.span_types.specs.declared.spans.Row.{Row}
use Rattle.span_types.specs.Orders.{span_cmp, trace_order}
use Rattle.traceql_value.specs.Spans.{earlier_row, choose_root, root_of, earliest, latest, start_of, trace_nanos}
use Rattle.traceql_value.specs.WholeTrace.{IsRoot, IsStart, IsEnd}

-- ---- members of lists, by cases on the list

abbrev In : Row → List Row → Type 0
In x [] = ⊥
In x (y ∷ ys) = (y ≡ x) ⊎ In x ys

in_of : (xs : List Row) (x : Row) → Contains xs x → In x xs
in_of [] x h = let l = h.1 in absurd (omega arith)
in_of (y ∷ ys) x h = at h.0 h.1 h.2 (in_of ys x)
  where
    at : (k : ℕ) → k < length (y ∷ ys) → get_or (y ∷ ys) k x ≡ x → (Contains ys x → In x ys) → In x (y ∷ ys)
    at zero l e rest = inl e
    at (suc k) l e rest = inr (rest (k, omega arith, e))

of_in : (xs : List Row) (x : Row) → In x xs → Contains xs x
of_in [] x h = absurd h
of_in (y ∷ ys) x h = elim h as (λ _. Contains (y ∷ ys) x) [
  | inl e ↦ (zero, omega arith, e)
  | inr m ↦ let w = of_in ys x m in let l = w.1 in (suc w.0, omega arith, w.2)
]

-- ---- the root

trace_order_total : IsTotalOrder trace_order
trace_order_total = then_total (on_total (λ (r : Row). r.span.start) nat_cmp_total) (on_total (λ (r : Row). r.span.id.0) nat_list_cmp_total)

less_turned : (o : Ordering) → is_lt o ≡ is_gt (ordering_reverse o)
less_turned Less = refl
less_turned Equal = refl
less_turned Greater = refl

less_is_no_greater : (o : Ordering) → is_lt o ≡ true → is_gt o ≡ false
less_is_no_greater Less e = refl
less_is_no_greater Equal e = refl
less_is_no_greater Greater e = let clash : false ≡ true = e in cc

-- the least among the spans without a parent
record Best (rows : List Row) (root : Row) : Type 0 where
  member : In root rows
  parentless : root.span.parent ≡ None
  first : (r : Row) → In r rows → r.span.parent ≡ None → is_gt (trace_order root r) ≡ false

-- the root is the best where there is one, and else all spans have parents
abbrev IsBest : List Row → Option Row → Type 0
IsBest rows None = (r : Row) → In r rows → r.span.parent ≢ None
IsBest rows (Some root) = Best rows root

itself : (r : Row) → is_gt (trace_order r r) ≡ false
itself r = ap is_gt (tied_itself trace_order_total r)

alone : (a : Row) (rows : List Row) → a.span.parent ≡ None → ((r : Row) → In r rows → r.span.parent ≢ None) → Best (a ∷ rows) a
alone a rows p none = record {
  member = inl refl;
  parentless = p;
  first = λ r m q. elim m as (λ _. is_gt (trace_order a r) ≡ false) [
    | inl e ↦ subst (λ x. is_gt (trace_order a x) ≡ false) e (itself a)
    | inr i ↦ absurd (none r i q)
  ];
}

better : (a b : Row) (rows : List Row) → a.span.parent ≡ None → Best rows b → (t : Bool) → is_lt (trace_order b a) ≡ t → Best (a ∷ rows) (cond t b a)
better a b rows p best true e = record {
  member = inr best.member;
  parentless = best.parentless;
  first = λ r m q. elim m as (λ _. is_gt (trace_order b r) ≡ false) [
    | inl s ↦ subst (λ x. is_gt (trace_order b x) ≡ false) s (less_is_no_greater (trace_order b a) e)
    | inr i ↦ best.first r i q
  ];
}
better a b rows p best false e =
    let ab : is_gt (trace_order a b) ≡ false = ap is_gt (trace_order_total.antisymm a b) ∙ sym (less_turned (trace_order b a)) ∙ e in
    record {
      member = inl refl;
      parentless = p;
      first = λ r m q. elim m as (λ _. is_gt (trace_order a r) ≡ false) [
        | inl s ↦ subst (λ x. is_gt (trace_order a x) ≡ false) s (itself a)
        | inr i ↦ upto trace_order_total a b r ab (best.first r i q)
      ];
    }

chosen : (a : Row) (rows : List Row) (rest : Option Row) → a.span.parent ≡ None → IsBest rows rest → Best (a ∷ rows) (earlier_row a rest)
chosen a rows None p none = alone a rows p none
chosen a rows (Some b) p best = better a b rows p best (is_lt (trace_order b a)) refl

passed : (a : Row) (rows : List Row) (rest : Option Row) (parent : SpanId) → a.span.parent ≡ Some parent → IsBest rows rest → IsBest (a ∷ rows) rest
passed a rows None parent p none = λ r m. elim m as (λ _. r.span.parent ≢ None) [
  | inl e ↦ λ q. let clash : Some parent ≡ None = sym p ∙ ap (λ (x : Row). x.span.parent) e ∙ q in cc
  | inr i ↦ none r i
]
passed a rows (Some b) parent p best = record {
  member = inr best.member;
  parentless = best.parentless;
  first = λ r m q. elim m as (λ _. is_gt (trace_order b r) ≡ false) [
    | inl e ↦ absurd (let clash : Some parent ≡ None = sym p ∙ ap (λ (x : Row). x.span.parent) e ∙ q in cc)
    | inr i ↦ best.first r i q
  ];
}

best_root : (rows : List Row) → IsBest rows (root_of rows)
best_root [] = λ r m. absurd m
best_root (a ∷ rows) = by a.span.parent refl (best_root rows)
  where
    by : (p : Option SpanId) → a.span.parent ≡ p → IsBest rows (root_of rows) → IsBest (a ∷ rows) (choose_root p a (root_of rows))
    by None e h = chosen a rows (root_of rows) e h
    by (Some parent) e h = passed a rows (root_of rows) parent e h

pub root_law : (rows : List Row) → IfSome (root_of rows) (IsRoot rows)
root_law rows = by (root_of rows) (best_root rows)
  where
    by : (found : Option Row) → IsBest rows found → IfSome found (IsRoot rows)
    by None h = tt
    by (Some root) h = record { member = of_in rows root h.member; parentless = h.parentless; first = λ r m q. h.first r (in_of rows r m) q }

pub rootless_law : (rows : List Row) → root_of rows ≡ None → (r : Row) → Contains rows r → r.span.parent ≢ None
rootless_law rows e r m = subst (IsBest rows) e (best_root rows) r (in_of rows r m)

even : (o : Ordering) → is_gt o ≡ false → is_gt (ordering_reverse o) ≡ false → o ≡ Equal
even Less a b = let clash : true ≡ false = b in cc
even Equal a b = refl
even Greater a b = let clash : true ≡ false = a in cc

latter_even : (a b : Ordering) → ordering_then a b ≡ Equal → b ≡ Equal
latter_even Less b e = let clash : Less ≡ Equal = e in cc
latter_even Equal b e = e
latter_even Greater b e = let clash : Greater ≡ Equal = e in cc

pub one_root : (rows : List Row) (a b : Row) → IsRoot rows a → IsRoot rows b → a.span.id ≡ b.span.id
one_root rows a b p q =
    let ab = p.first b q.member q.parentless in
    let ba : is_gt (ordering_reverse (trace_order a b)) ≡ false = ap is_gt (sym (trace_order_total.antisymm b a)) ∙ q.first a p.member p.parentless in
    let same : span_cmp a.span.id b.span.id ≡ Equal = latter_even (nat_cmp a.span.start b.span.start) (span_cmp a.span.id b.span.id) (even (trace_order a b) ab ba) in
    ap (λ (bytes : List ℕ). record { 0 = bytes }) (exact_bytes a.span.id.0 b.span.id.0 same)

-- ---- start and end

starts_below : (rows : List Row) (r : Row) → In r rows → r.span.start ≤ latest rows
starts_below [] r m = absurd m
starts_below (a ∷ rows) r m = elim m as (λ _. r.span.start ≤ latest (a ∷ rows)) [
  | inl e ↦ let s : a.span.start ≡ r.span.start = ap (λ (x : Row). x.span.start) e in omega arith
  | inr i ↦ let h = starts_below rows r i in omega arith
]

ends_below : (rows : List Row) (r : Row) → In r rows → r.span.end ≤ latest rows
ends_below [] r m = absurd m
ends_below (a ∷ rows) r m = elim m as (λ _. r.span.end ≤ latest (a ∷ rows)) [
  | inl e ↦ let s : a.span.end ≡ r.span.end = ap (λ (x : Row). x.span.end) e in omega arith
  | inr i ↦ let h = ends_below rows r i in omega arith
]

earliest_below : (known : ℕ) (rows : List Row) (r : Row) → In r rows → earliest known rows ≤ r.span.start
earliest_below known [] r m = absurd m
earliest_below known (a ∷ rows) r m = elim m as (λ _. earliest known (a ∷ rows) ≤ r.span.start) [
  | inl e ↦ let s : a.span.start ≡ r.span.start = ap (λ (x : Row). x.span.start) e in omega arith
  | inr i ↦ let h = earliest_below known rows r i in omega arith
]

-- what is one of two numbers
either_least : (m n : ℕ) → (min m n ≡ m) ⊎ (min m n ≡ n)
either_least m n = elim (cases_lt m n) as (λ _. (min m n ≡ m) ⊎ (min m n ≡ n)) [ inl l ↦ inl (omega arith) | inr l ↦ inr (omega arith) ]

either_greatest : (m n : ℕ) → (max m n ≡ m) ⊎ (max m n ≡ n)
either_greatest m n = elim (cases_lt m n) as (λ _. (max m n ≡ m) ⊎ (max m n ≡ n)) [ inl l ↦ inr (omega arith) | inr l ↦ inl (omega arith) ]

-- the earliest is what was known, or a start
earliest_among : (known : ℕ) (rows : List Row) → (earliest known rows ≡ known) ⊎ ((r : Row) × In r rows × (r.span.start ≡ earliest known rows))
earliest_among known [] = inl refl
earliest_among known (a ∷ rows) = elim (either_least a.span.start (earliest known rows)) as (λ _. Among (a ∷ rows)) [
  | inl e ↦ inr (a, inl refl, sym e)
  | inr e ↦ elim (earliest_among known rows) as (λ _. Among (a ∷ rows)) [
    | inl f ↦ inl (e ∙ f)
    | inr w ↦ inr (w.0, inr w.1, w.2 ∙ sym e)
  ]
]
  where
    Among : List Row → Type 0
    Among rows = (earliest known rows ≡ known) ⊎ ((r : Row) × In r rows × (r.span.start ≡ earliest known rows))

-- the row has the moment among its two
abbrev Has : Row → ℕ → Type 0
Has r moment = (r.span.start ≡ moment) ⊎ (r.span.end ≡ moment)

own : (a : Row) → Has a (max a.span.start a.span.end)
own a = elim (either_greatest a.span.start a.span.end) as (λ _. Has a (max a.span.start a.span.end)) [ inl e ↦ inl (sym e) | inr e ↦ inr (sym e) ]

latest_among : (a : Row) (rows : List Row) → (r : Row) × In r (a ∷ rows) × Has r (latest (a ∷ rows))
latest_among a [] = (a, inl refl, subst (Has a) zero_more (own a))
  where
    zero_more : max a.span.start a.span.end ≡ max (max a.span.start a.span.end) 0
    zero_more = omega arith
latest_among a (b ∷ rows) = elim (either_greatest (max a.span.start a.span.end) (latest (b ∷ rows))) as (λ _. (r : Row) × In r (a ∷ b ∷ rows) × Has r (latest (a ∷ b ∷ rows))) [
  | inl e ↦ (a, inl refl, subst (Has a) (sym e) (own a))
  | inr e ↦ let w = latest_among b rows in (w.0, inr w.1, subst (Has w.0) (sym e) w.2)
]

start_within : (a : Row) (rows : List Row) → start_of (a ∷ rows) ≤ latest (a ∷ rows)
start_within a rows =
    let l = earliest_below (latest (a ∷ rows)) (a ∷ rows) a (inl refl) in
    let h = starts_below (a ∷ rows) a (inl refl) in
    omega arith

pub start_law : (rows : List Row) → rows ≢ [] → IsStart rows (start_of rows)
start_law [] some = absurd (some refl)
start_law (a ∷ rows) some = record {
  member = elim (earliest_among (latest (a ∷ rows)) (a ∷ rows)) as (λ _. (r : Row) × Contains (a ∷ rows) r × (r.span.start ≡ start_of (a ∷ rows))) [
    | inl e ↦
        let l = earliest_below (latest (a ∷ rows)) (a ∷ rows) a (inl refl) in
        let h = starts_below (a ∷ rows) a (inl refl) in
        (a, of_in (a ∷ rows) a (inl refl), omega arith)
    | inr w ↦ (w.0, of_in (a ∷ rows) w.0 w.1, w.2)
  ];
  bound = λ r m. earliest_below (latest (a ∷ rows)) (a ∷ rows) r (in_of (a ∷ rows) r m);
}

pub end_law : (rows : List Row) → rows ≢ [] → IsEnd rows (latest rows)
end_law [] some = absurd (some refl)
end_law (a ∷ rows) some = record {
  member = let w = latest_among a rows in (w.0, of_in (a ∷ rows) w.0 w.1, w.2);
  starts = λ r m. starts_below (a ∷ rows) r (in_of (a ∷ rows) r m);
  ends = λ r m. ends_below (a ∷ rows) r (in_of (a ∷ rows) r m);
}

pub length_law : (rows : List Row) → rows ≢ [] → start_of rows + trace_nanos rows ≡ latest rows
length_law [] some = absurd (some refl)
length_law (a ∷ rows) some = let l = start_within a rows in omega arith

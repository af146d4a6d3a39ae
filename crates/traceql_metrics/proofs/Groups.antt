-- The items of one key, which are neighbours in a list in order.
use Rattle.std.proofs.Common.{◌≡◌, ℕ, zero, suc, ◌+◌, ◌<◌, ◌≤◌, Bool, true, false, List, [], ◌∷◌, refl, sym, ◌∙◌, ap, arith, length, filter, take, drop, if◌then◌else◌, slice_index_or}
use Rattle.std.specs.Cmp.{IsTotalOrder}
use Rattle.std.specs.Ordering.{is_eq, is_le, is_lt, ordering_index}
use Rattle.std.specs.declared.cmp.Ordering.{Ordering}
use Rattle.std.specs.declared.cmp.Ordering.TheVariants.{Less, Equal, Greater}
use Rattle.std.specs.List.Sorted.{IsNonDecreasingBy, IsPartitionedBy, IsPartitionPoint, IsSortedByKey}
use Rattle.std.proofs.lemmas.List.Sorted.{searchable_from_sorted}

-- an answer that is no higher passes what the higher one passes
lt_below : (a b : Ordering) → ordering_index a ≤ ordering_index b → is_lt b ≡ true → is_lt a ≡ true
lt_below Less b h t = refl
lt_below Equal Less h t = absurd (omega (arith, h))
lt_below Equal Equal h t = t
lt_below Equal Greater h t = cc
lt_below Greater Less h t = absurd (omega (arith, h))
lt_below Greater Equal h t = cc
lt_below Greater Greater h t = t

le_below : (a b : Ordering) → ordering_index a ≤ ordering_index b → is_le b ≡ true → is_le a ≡ true
le_below Less b h t = refl
le_below Equal b h t = refl
le_below Greater Less h t = absurd (omega (arith, h))
le_below Greater Equal h t = absurd (omega (arith, h))
le_below Greater Greater h t = t

pub parted_lt : {X K : Type 0} {R : K → K → Ordering} (o : IsTotalOrder R) (key : X → K) (xs : List X) (t : K) → IsSortedByKey key R xs → IsPartitionedBy (λ y. is_lt (R (key y) t)) xs
parted_lt {R = R} o key xs t h = λ i j d l b p.
    lt_below (R (key (slice_index_or xs i d)) t) (R (key (slice_index_or xs j d)) t) (searchable_from_sorted o key xs t h i j d l b) p

pub parted_le : {X K : Type 0} {R : K → K → Ordering} (o : IsTotalOrder R) (key : X → K) (xs : List X) (t : K) → IsSortedByKey key R xs → IsPartitionedBy (λ y. is_le (R (key y) t)) xs
parted_le {R = R} o key xs t h = λ i j d l b p.
    le_below (R (key (slice_index_or xs i d)) t) (R (key (slice_index_or xs j d)) t) (searchable_from_sorted o key xs t h i j d l b) p

-- where the answers below a place are `Less`, and those from another one on `Greater`
abbrev pub Begins : {X : Type 0} → (X → Ordering) → List X → ℕ → Type 0
Begins o xs from = IsPartitionPoint (λ y. is_lt (o y) ≡ true) (λ y. is_lt (o y) ≡ false) xs from

abbrev pub Ends : {X : Type 0} → (X → Ordering) → List X → ℕ → Type 0
Ends o xs to = IsPartitionPoint (λ y. is_le (o y) ≡ true) (λ y. is_le (o y) ≡ false) xs to

lt_and_gt : (o : Ordering) → is_lt o ≡ true → is_le o ≡ false → ⊥
lt_and_gt Less h g = cc
lt_and_gt Equal h g = cc
lt_and_gt Greater h g = cc

not_le : (o : Ordering) → is_le o ≡ false → is_eq o ≡ false
not_le Less h = cc
not_le Equal h = cc
not_le Greater h = refl

is_lt_no : (o : Ordering) → is_lt o ≡ true → is_eq o ≡ false
is_lt_no Less h = refl
is_lt_no Equal h = cc
is_lt_no Greater h = cc

in_between : (o : Ordering) → is_lt o ≡ false → is_le o ≡ true → is_eq o ≡ true
in_between Less h g = cc
in_between Equal h g = refl
in_between Greater h g = cc

pub begins_first : {X : Type 0} (o : X → Ordering) (xs : List X) (from to : ℕ) → Begins o xs from → Ends o xs to → from ≤ length xs → from ≤ to
begins_first o [] from to b e l = omega (arith, l)
begins_first o (x ∷ xs) zero to b e l = omega arith
begins_first o (x ∷ xs) (suc from) zero b e l = absurd (lt_and_gt (o x) (b.0 0 x (omega arith) (omega arith)) (e.1 0 x (omega arith) (omega arith)))
begins_first o (x ∷ xs) (suc from) (suc to) b e l =
    let less = begins_first o xs from to
    (λ k d l h. b.0 (suc k) d (omega arith) (omega (arith, h)), λ k d l h. b.1 (suc k) d (omega (arith, l)) (omega (arith, h)))
    (λ k d l h. e.0 (suc k) d (omega arith) (omega (arith, h)), λ k d l h. e.1 (suc k) d (omega (arith, l)) (omega (arith, h)))
    (omega (arith, l)) in
    omega (arith, less)

pub group_is : {X : Type 0} (o : X → Ordering) (xs : List X) (from to : ℕ) → Begins o xs from → Ends o xs to → from ≤ to → to ≤ length xs →
    drop from (take to xs) ≡ filter (λ y. is_eq (o y)) xs
group_is o [] zero zero b e l w = refl
group_is o [] zero (suc to) b e l w = absurd (omega (arith, w))
group_is o [] (suc from) zero b e l w = absurd (omega (arith, l))
group_is o [] (suc from) (suc to) b e l w = absurd (omega (arith, w))
group_is o (x ∷ xs) zero zero b e l w =
    group_is o xs 0 0 (λ k d l h. absurd (omega (arith, h)), λ k d l h. b.1 (suc k) d (omega arith) (omega (arith, h)))
    (λ k d l h. absurd (omega (arith, h)), λ k d l h. e.1 (suc k) d (omega arith) (omega (arith, h))) (omega arith) (omega arith)
    ∙ ap (λ t. if t then x ∷ filter (λ y. is_eq (o y)) xs else filter (λ y. is_eq (o y)) xs) (sym (not_le (o x) (e.1 0 x (omega arith) (omega arith))))
group_is o (x ∷ xs) zero (suc to) b e l w =
    ap (λ ys. x ∷ ys)
    (group_is o xs 0 to (λ k d l h. absurd (omega (arith, h)), λ k d l h. b.1 (suc k) d (omega arith) (omega (arith, h)))
    (λ k d l h. e.0 (suc k) d (omega arith) (omega (arith, h)), λ k d l h. e.1 (suc k) d (omega (arith, l)) (omega (arith, h))) (omega arith) (omega (arith, w)))
    ∙ ap (λ t. if t then x ∷ filter (λ y. is_eq (o y)) xs else filter (λ y. is_eq (o y)) xs)
    (sym (in_between (o x) (b.1 0 x (omega arith) (omega arith)) (e.0 0 x (omega arith) (omega arith))))
group_is o (x ∷ xs) (suc from) zero b e l w = absurd (omega (arith, l))
group_is o (x ∷ xs) (suc from) (suc to) b e l w =
    group_is o xs from to
    (λ k d l h. b.0 (suc k) d (omega arith) (omega (arith, h)), λ k d l h. b.1 (suc k) d (omega (arith, l)) (omega (arith, h)))
    (λ k d l h. e.0 (suc k) d (omega arith) (omega (arith, h)), λ k d l h. e.1 (suc k) d (omega (arith, l)) (omega (arith, h)))
    (omega (arith, l)) (omega (arith, w))
    ∙ ap (λ t. if t then x ∷ filter (λ y. is_eq (o y)) xs else filter (λ y. is_eq (o y)) xs) (sym (is_lt_no (o x) (b.0 0 x (omega arith) (omega arith))))

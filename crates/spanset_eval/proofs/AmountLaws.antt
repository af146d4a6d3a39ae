-- Sums, and the order of quotients.
use Rattle.std.proofs.Common.{◌≡◌, ℕ, ℤ, pos, negsuc, zero, suc, ◌+◌, ◌*◌, ◌/◌, ◌%◌, ◌<◌, ◌++◌, List, [], ◌∷◌, length, take, get_or, sym, ap, arith, ◌∙◌, refl, subst, Option, Some, None}
use Rattle.std.specs.Prelude.{◌*ℤ◌, ◌+ℤ◌, ◌<ℤ◌, ◌≤ℤ◌}
use Rattle.std.specs.Cmp.{int_cmp_is, int_ranks}
use Rattle.std.specs.Int.{int_div_euclid, int_rem_euclid}
use Rattle.std.specs.List.{filter_map}
use Rattle.std.specs.Option.{option_to_list}
use Rattle.std.specs.Ordering.{int_cmp, nat_cmp, ordering_then, MatchOrdering}
use Rattle.std.specs.declared.cmp.Ordering.{Ordering}
use Rattle.std.specs.declared.cmp.Ordering.TheVariants.{Less, Equal, Greater}
use Rattle.std.proofs.lemmas.Cmp.{ranked}
use Rattle.std.proofs.lemmas.Int.{ints}
use Rattle.std.proofs.lemmas.List.{take_more}
use Rattle.std.proofs.lemmas.List.Elements.{filter_map-append}
use Rattle.std.proofs.Math.Nat.{mul_comm, mul-lt-mul_of_pos_right, mod-lt}
use Rattle.std.proofs.lemmas.Nat.{div-add-mod'}
use lib.IntN.{suc_ℤ, suc_ℤ-*ℤ, +ℤ-suc_ℤ, *ℤ-zero}
use Rattle.spanset_eval.specs.Stages.{total_of}
use Rattle.spanset_eval.proofs.ProductLaws.{product_assoc, times_less}

total_of-push : (xs : List ℤ) (x : ℤ) → total_of (xs ++ x ∷ []) ≡ total_of xs +ℤ x
total_of-push [] x = omega (arith, ints)
total_of-push (y ∷ xs) x = let rest = total_of-push xs x in omega (arith, ints)

pub total_more : (xs : List ℤ) (i : ℕ) (d : ℤ) → i < length xs → total_of (take (i + 1) xs) ≡ total_of (take i xs) +ℤ get_or xs i d
total_more xs i d l = ap total_of (take_more xs i d l) ∙ total_of-push (take i xs) (get_or xs i d)

-- ---- filtered maps

pub filter_map_more : {X Y : Type 0} (f : X → Option Y) (xs : List X) (i : ℕ) (d : X) → i < length xs →
    filter_map f (take (i + 1) xs) ≡ filter_map f (take i xs) ++ option_to_list (f (get_or xs i d))
filter_map_more {X} {Y} f xs i d l =
    ap (filter_map f) (take_more xs i d l) ∙ filter_map-append f (take i xs) (get_or xs i d ∷ []) ∙ ap (λ ys. filter_map f (take i xs) ++ ys) (alone (get_or xs i d) (f (get_or xs i d)) refl)
  where
    alone : (x : X) (o : Option Y) → f x ≡ o → filter_map f (x ∷ []) ≡ option_to_list (f x)
    alone x None e = rw e refl
    alone x (Some y) e = rw e refl

-- ---- quotients

-- By the signs: both sides are the same number.
one_more : (x : ℤ) (r : ℕ) → x +ℤ pos (suc r) ≡ suc_ℤ (x +ℤ pos r)
one_more x r = +ℤ-suc_ℤ x (pos r)

pub sum_times : (x : ℤ) (r n : ℕ) → (x +ℤ pos r) *ℤ pos n ≡ x *ℤ pos n +ℤ pos (r * n)
sum_times x zero n =
    let none : x +ℤ pos 0 ≡ x = omega (arith, ints) in
    ap (λ z. z *ℤ pos n) none ∙ last (x *ℤ pos n) (0 * n) (omega arith)
  where
    last : (y : ℤ) (m : ℕ) → m ≡ 0 → y ≡ y +ℤ pos m
    last y m e = omega (arith, ints)
sum_times x (suc r) n =
    let one : x +ℤ pos (suc r) ≡ suc_ℤ (x +ℤ pos r) = one_more x r in
    ap (λ z. z *ℤ pos n) one ∙ suc_ℤ-*ℤ (x +ℤ pos r) (pos n) ∙ ap (λ z. z +ℤ pos n) (sum_times x r n) ∙ last (x *ℤ pos n) (r * n) (suc r * n) (omega arith)
  where
    last : (y : ℤ) (m k : ℕ) → k ≡ m + n → (y +ℤ pos m) +ℤ pos n ≡ y +ℤ pos k
    last y m k e = omega (arith, ints)

-- An amount is its whole part and what remains.
pub divided_is : (a : ℤ) (n : ℕ) → 0 < n → a ≡ int_div_euclid a (pos n) *ℤ pos n +ℤ int_rem_euclid a (pos n)
divided_is (pos a) n up = ap pos (sym (div-add-mod' a n))
divided_is (negsuc a) n up =
    let e = div-add-mod' a n in
    let l : a % n < n = mod-lt a up in
    let s : suc (a / n) * n ≡ a / n * n + n = omega arith in
    omega (arith, ints)

times_le : (x y : ℤ) (k : ℕ) → x ≤ℤ y → (x *ℤ pos k) ≤ℤ (y *ℤ pos k)
times_le x y zero l = let e = zero_times x in let f = zero_times y in omega (arith, ints)
  where
    zero_times : (z : ℤ) → z *ℤ pos 0 ≡ pos 0
    zero_times z = *ℤ-zero z
times_le x y (suc k) l = by_cases (int_cmp x y) (int_ranks x y)
  where
    by_cases : (o : Ordering) → MatchOrdering o (x <ℤ y) (x ≡ y) (y <ℤ x) → (x *ℤ pos (suc k)) ≤ℤ (y *ℤ pos (suc k))
    by_cases Less h = let g = times_less x y (suc k) (omega arith) h in omega (arith, ints)
    by_cases Equal e = let same : x *ℤ pos (suc k) ≡ y *ℤ pos (suc k) = ap (λ z. z *ℤ pos (suc k)) e in omega (arith, ints)
    by_cases Greater h = absurd (omega (arith, ints))

-- of numbers with one whole part
same_whole : (z : ℤ) (a b : ℕ) → int_cmp (z +ℤ pos a) (z +ℤ pos b) ≡ nat_cmp a b
same_whole z a b = sym (int_cmp_is (z +ℤ pos a) (z +ℤ pos b) (nat_cmp a b) (by_cases (nat_cmp a b) (ranked a b (nat_cmp a b) refl)))
  where
    by_cases : (o : Ordering) → MatchOrdering o (a < b) (a ≡ b) (b < a) → MatchOrdering o ((z +ℤ pos a) <ℤ (z +ℤ pos b)) (z +ℤ pos a ≡ z +ℤ pos b) ((z +ℤ pos b) <ℤ (z +ℤ pos a))
    by_cases Less l = omega (arith, ints)
    by_cases Equal e = ap (λ k. z +ℤ pos k) e
    by_cases Greater l = omega (arith, ints)

-- Whole parts are compared first, and then what remains.
pub amounts_in_order : (s t x y : ℤ) (m n a b : ℕ) → s ≡ x *ℤ pos m +ℤ pos a → a < m → t ≡ y *ℤ pos n +ℤ pos b → b < n →
    ordering_then (int_cmp x y) (nat_cmp (a * n) (b * m)) ≡ int_cmp (s *ℤ pos n) (t *ℤ pos m)
amounts_in_order s t x y m n a b es la et lb =
    by_whole (int_cmp x y) (int_ranks x y)
  where
    left : s *ℤ pos n ≡ x *ℤ pos (m * n) +ℤ pos (a * n)
    left = ap (λ z. z *ℤ pos n) es ∙ sum_times (x *ℤ pos m) a n ∙ ap (λ z. z +ℤ pos (a * n)) (product_assoc x m n)

    right : t *ℤ pos m ≡ y *ℤ pos (m * n) +ℤ pos (b * m)
    right = ap (λ z. z *ℤ pos m) et ∙ sum_times (y *ℤ pos n) b m ∙ ap (λ z. z +ℤ pos (b * m)) (product_assoc y n m ∙ ap (λ k. y *ℤ pos k) (mul_comm n m))

    small : a * n < m * n
    small = mul-lt-mul_of_pos_right la (omega arith)

    small' : b * m < m * n
    small' = subst (λ k. b * m < k) (mul_comm n m) (mul-lt-mul_of_pos_right lb (omega arith))

    step : (u v : ℤ) → u <ℤ v → (u *ℤ pos (m * n) +ℤ pos (m * n)) ≤ℤ (v *ℤ pos (m * n))
    step u v l = let h = times_le (u +ℤ pos 1) v (m * n) (omega (arith, ints)) in let e = sum_times u 1 (m * n) in omega (arith, ints)

    by_whole : (o : Ordering) → MatchOrdering o (x <ℤ y) (x ≡ y) (y <ℤ x) → ordering_then o (nat_cmp (a * n) (b * m)) ≡ int_cmp (s *ℤ pos n) (t *ℤ pos m)
    by_whole Less l = let h = step x y l in let e = left in let f = right in let g = small in int_cmp_is (s *ℤ pos n) (t *ℤ pos m) Less (omega (arith, ints))
    by_whole Equal e = sym (ap (λ z. int_cmp z (t *ℤ pos m)) left ∙ ap (λ z. int_cmp (x *ℤ pos (m * n) +ℤ pos (a * n)) z) (right ∙ ap (λ z. z *ℤ pos (m * n) +ℤ pos (b * m)) (sym e))
        ∙ same_whole (x *ℤ pos (m * n)) (a * n) (b * m))
    by_whole Greater l = let h = step y x l in let e = left in let f = right in let g = small' in int_cmp_is (s *ℤ pos n) (t *ℤ pos m) Greater (omega (arith, ints))

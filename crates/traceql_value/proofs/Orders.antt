-- The orders of fractions and of values.
use Rattle.std.proofs.Common.{◌≡◌, ℕ, suc, ◌*◌, ◌<◌, ◌≤◌, max, ℤ, pos, negsuc, true, false, List, [], Ordering, sym, ap, ◌∙◌, refl, arith}
use Rattle.std.specs.Prelude.{◌*ℤ◌, ◌<ℤ◌}
use Rattle.std.specs.Cmp.{IsTotalOrder, IsStrictWeakOrder, then_total, on_total, int_cmp_is}
use Rattle.std.specs.Cmp.Lexicographic.{slice_cmp}
use Rattle.std.specs.Ordering.{nat_cmp, int_cmp, is_lt, is_gt, MatchOrdering, ordering_reverse, ordering_then, on, then_cmp}
use Rattle.std.specs.declared.cmp.Ordering.TheVariants.{Less, Equal, Greater}
use Rattle.std.proofs.lemmas.Cmp.{nat_cmp_total, int_cmp_total, nat_list_cmp_total, upto, int_ranked}
use Rattle.std.proofs.lemmas.Int.{ints}
use Rattle.std.proofs.Math.Nat.{mul_comm, mul-le-mul_right}
use native.Mathlib.Nat.{mul-pos}
use Rattle.traceql_value.specs.Fractions.{Fraction, whole_fraction}
use Rattle.traceql_value.specs.Arithmetic.{fraction_cmp}
use Rattle.span_types.specs.Numbers.{code_number, kind_number}
use Rattle.traceql_value.specs.Values.{value_cmp, kind_rank, truth_number}
use Rattle.traceql_value.specs.declared.value.Value.{Value}
use Rattle.traceql_value.specs.declared.value.Value.TheVariants.{Nil, Truth, Number, Text, Status, Kind}
use Rattle.traceql_value.proofs.Products.{product_assoc}

-- ---- fractions

more : (m n k : ℕ) → 0 < k → m < n → m * k < n * k
more m n k up lt =
    let le : suc m * k ≤ n * k = mul-le-mul_right k lt in
    omega arith

below : (x y : ℤ) (k : ℕ) → 0 < k → x <ℤ y → (x *ℤ pos k) <ℤ (y *ℤ pos k)
below (pos a) (pos b) k up lt =
    let l : a < b = omega (arith, ints) in
    let m = more a b k up l in
    omega (arith, ints)
below (pos a) (negsuc b) k up lt = absurd (omega (arith, ints))
below (negsuc a) (pos b) k up lt =
    let m : 0 < suc a * k = mul-pos (omega arith) up in
    omega (arith, ints)
below (negsuc a) (negsuc b) k up lt =
    let l : suc b < suc a = omega (arith, ints) in
    let m = more (suc b) (suc a) k up l in
    omega (arith, ints)

scaled_by : (x y : ℤ) (k : ℕ) (r : Ordering) → 0 < k → MatchOrdering r (x <ℤ y) (x ≡ y) (y <ℤ x) → MatchOrdering r ((x *ℤ pos k) <ℤ (y *ℤ pos k)) (x *ℤ pos k ≡ y *ℤ pos k) ((y *ℤ pos k) <ℤ (x *ℤ pos k))
scaled_by x y k Less up h = below x y k up h
scaled_by x y k Equal up h = ap (λ z. z *ℤ pos k) h
scaled_by x y k Greater up h = below y x k up h

-- a factor above 0 changes no order
scaled : (x y : ℤ) (k : ℕ) → 0 < k → int_cmp (x *ℤ pos k) (y *ℤ pos k) ≡ int_cmp x y
scaled x y k up =
    sym (int_cmp_is (x *ℤ pos k) (y *ℤ pos k) (int_cmp x y) (scaled_by x y k (int_cmp x y) up (int_ranked x y (int_cmp x y) refl)))

over : (x : ℤ) (m n k : ℕ) → m * n ≡ k → (x *ℤ pos m) *ℤ pos n ≡ x *ℤ pos k
over x m n k e = product_assoc x m n ∙ ap (λ d. x *ℤ pos d) e

-- two fractions over a common denominator
common : (a b : ℤ) (da db d m n : ℕ) → 0 < d → db * d ≡ m → da * d ≡ n → int_cmp (a *ℤ pos db) (b *ℤ pos da) ≡ int_cmp (a *ℤ pos m) (b *ℤ pos n)
common a b da db d m n up e f =
    sym (scaled (a *ℤ pos db) (b *ℤ pos da) d up) ∙ ap (λ z. int_cmp z (b *ℤ pos da *ℤ pos d)) (over a db d m e)
    ∙ ap (λ z. int_cmp (a *ℤ pos m) z) (over b da d n f)

some : (d : ℕ) → 0 < max 1 d
some d = omega arith

-- three fractions over one denominator, whose numerators are compared as they are
record Over (a b c : Fraction) : Type 0 where
  x : ℤ
  y : ℤ
  z : ℤ
  ab : fraction_cmp a b ≡ int_cmp x y
  bc : fraction_cmp b c ≡ int_cmp y z
  ac : fraction_cmp a c ≡ int_cmp x z

over_one : (a b c : Fraction) → Over a b c
over_one a b c =
    let da = max 1 a.denominator in
    let db = max 1 b.denominator in
    let dc = max 1 c.denominator in
    record {
      x = a.numerator *ℤ pos (db * dc);
      y = b.numerator *ℤ pos (da * dc);
      z = c.numerator *ℤ pos (da * db);
      ab = common a.numerator b.numerator da db dc (db * dc) (da * dc) (some c.denominator) refl refl;
      bc = common b.numerator c.numerator db dc da (da * dc) (da * db) (some a.denominator) (mul_comm dc da) (mul_comm db da);
      ac = common a.numerator c.numerator da dc db (db * dc) (da * db) (some b.denominator) (mul_comm dc db) refl;
    }

pub fraction_cmp_total : IsTotalOrder fraction_cmp
fraction_cmp_total = record {
  antisymm = λ a b. int_cmp_total.antisymm (a.numerator *ℤ pos (max 1 b.denominator)) (b.numerator *ℤ pos (max 1 a.denominator));
  trans = λ a b c p q. let o = over_one a b c in o.ac ∙ int_cmp_total.trans o.x o.y o.z (sym o.ab ∙ p) (sym o.bc ∙ q);
  congr = λ a b c p. let o = over_one a b c in o.ac ∙ int_cmp_total.congr o.x o.y o.z (sym o.ab ∙ p) ∙ sym o.bc;
}

-- ---- values

small_number : Value → ℕ
small_number (Truth truth) = truth_number truth
small_number (Status status) = code_number status
small_number (Kind kind) = kind_number kind
small_number v = 0

number_of : Value → Fraction
number_of (Number n) = n
number_of v = whole_fraction (pos 0)

text_of : Value → List ℕ
text_of (Text text) = text
text_of v = []

-- kinds first, and then what each kind is ordered by
abbrev parts_cmp : Value → Value → Ordering
parts_cmp =
    then_cmp (on kind_rank nat_cmp) (then_cmp (on small_number nat_cmp) (then_cmp (on number_of fraction_cmp) (on text_of (slice_cmp nat_cmp))))

parts_cmp_total : IsTotalOrder parts_cmp
parts_cmp_total =
    then_total (on_total kind_rank nat_cmp_total) (then_total (on_total small_number nat_cmp_total) (then_total (on_total number_of fraction_cmp_total) (on_total text_of nat_list_cmp_total)))

only_second : (o : Ordering) → o ≡ ordering_then o Equal
only_second Less = refl
only_second Equal = refl
only_second Greater = refl

by_parts : (a b : Value) → value_cmp a b ≡ parts_cmp a b
unfolding small_number number_of text_of
by_parts Nil Nil = refl
by_parts Nil (Truth b) = refl
by_parts Nil (Number b) = refl
by_parts Nil (Text b) = refl
by_parts Nil (Status b) = refl
by_parts Nil (Kind b) = refl
by_parts (Truth a) Nil = refl
by_parts (Truth a) (Truth b) = only_second (nat_cmp (truth_number a) (truth_number b))
by_parts (Truth a) (Number b) = refl
by_parts (Truth a) (Text b) = refl
by_parts (Truth a) (Status b) = refl
by_parts (Truth a) (Kind b) = refl
by_parts (Number a) Nil = refl
by_parts (Number a) (Truth b) = refl
by_parts (Number a) (Number b) = only_second (fraction_cmp a b)
by_parts (Number a) (Text b) = refl
by_parts (Number a) (Status b) = refl
by_parts (Number a) (Kind b) = refl
by_parts (Text a) Nil = refl
by_parts (Text a) (Truth b) = refl
by_parts (Text a) (Number b) = refl
by_parts (Text a) (Text b) = refl
by_parts (Text a) (Status b) = refl
by_parts (Text a) (Kind b) = refl
by_parts (Status a) Nil = refl
by_parts (Status a) (Truth b) = refl
by_parts (Status a) (Number b) = refl
by_parts (Status a) (Text b) = refl
by_parts (Status a) (Status b) = only_second (nat_cmp (code_number a) (code_number b))
by_parts (Status a) (Kind b) = refl
by_parts (Kind a) Nil = refl
by_parts (Kind a) (Truth b) = refl
by_parts (Kind a) (Number b) = refl
by_parts (Kind a) (Text b) = refl
by_parts (Kind a) (Status b) = refl
by_parts (Kind a) (Kind b) = only_second (nat_cmp (kind_number a) (kind_number b))

pub value_cmp_total : IsTotalOrder value_cmp
value_cmp_total = record {
  antisymm = λ a b. by_parts a b ∙ parts_cmp_total.antisymm a b ∙ ap ordering_reverse (sym (by_parts b a));
  trans = λ a b c p q. by_parts a c ∙ parts_cmp_total.trans a b c (sym (by_parts a b) ∙ p) (sym (by_parts b c) ∙ q);
  congr = λ a b c p. by_parts a c ∙ parts_cmp_total.congr a b c (sym (by_parts a b) ∙ p) ∙ sym (by_parts b c);
}

turned : (o p : Ordering) → o ≡ ordering_reverse p → is_lt o ≡ is_gt p
turned o Less e = ap is_lt e
turned o Equal e = ap is_lt e
turned o Greater e = ap is_lt e

not_both : (o : Ordering) → is_gt o ≡ true → is_lt o ≡ false
not_both Less e = absurd cc
not_both Equal e = refl
not_both Greater e = refl

-- what a total order calls less is a strict weak order
strict : {K : Type 0} {R : K → K → Ordering} → IsTotalOrder R → IsStrictWeakOrder (λ a b. is_lt (R a b))
strict {K} {R} o = record {
  one_way = λ x y h. not_both (R y x) (sym (turned (R x y) (R y x) (o.antisymm x y)) ∙ h);
  chain = λ x y z p q.
      turned (R x z) (R z x) (o.antisymm x z)
      ∙ upto o z y x (sym (turned (R y z) (R z y) (o.antisymm y z)) ∙ q) (sym (turned (R x y) (R y x) (o.antisymm x y)) ∙ p);
}

pub value_cmp_strict : IsStrictWeakOrder (λ (a b : Value). is_lt (value_cmp a b))
value_cmp_strict = strict value_cmp_total

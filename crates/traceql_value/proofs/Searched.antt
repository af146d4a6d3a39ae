-- The least denominator, and the ratio that a quotient is.
use Rattle.std.proofs.Common.{◌≡◌, inl, inr, rules, ℕ, zero, suc, ◌+◌, ◌-◌, ◌*◌, ◌/◌, ◌%◌, ◌^◌, ◌<◌, ◌≤◌, ◌==◌, ℤ, pos, negsuc, Bool, true, false, cond, Option, Some, None, IsSome, IfSome, IfNone, w64, FitsSigned, sym, subst, ap, arith, ◌∙◌, refl}
use Rattle.std.specs.Prelude.{◌*ℤ◌, ◌+ℤ◌, neg_ℤ, unsigned_abs, int_div, int_rem}
use Rattle.std.specs.Int.{◌∣◌}
use Rattle.std.specs.Option.{option_and_then}
use Rattle.std.proofs.lemmas.Bool.{eqb-true}
use Rattle.std.proofs.lemmas.Bool.Decides.{nat_tests}
use Rattle.std.proofs.lemmas.Int.{quot-rem, unsigned_abs-mul}
use Rattle.std.proofs.lemmas.Nat.Gcd.{mod-eq-zero_of_dvd, dvd_of_mod-eq-zero, le_of_dvd}
use Rattle.std.proofs.Math.Nat.{mul_comm, mul_assoc, mul-mod_left, mul-le-mul_left, eq-or-lt_of_le, eq-zero-or-pos}
use native.Mathlib.Nat.{div-mul_cancel, pos_of_dvd_of_pos, eq_of_mul-eq-mul_right, dvd-mul_left}
use lib.IntN.{+ℤ_idr, neg_ℤ-neg_ℤ}
use Rattle.traceql_value.specs.Fractions.{Fraction, AreCoprime, IsRatio, IsQuotient, IsRatioOf, NoneIsQuotient}
use Rattle.traceql_value.specs.Arithmetic.{fits, denominator_from, over, ratio_of}
use Rattle.traceql_value.proofs.Divisors.{divides_other, AreCoprime-swap}
use Rattle.traceql_value.proofs.Products.{cancel}

-- ---- the search

-- of the numbers from the first to before the last the least by which p / q is multiplied to a whole number
record IsLeast (p q first last d : ℕ) : Type 0 where
  from : first ≤ d
  before : d < last
  whole : (p * d) % q ≡ 0
  least : (k : ℕ) → first ≤ k → k < d → (p * k) % q ≡ 0 → ⊥

found_step : (p q first last d : ℕ) (o : Option ℕ) → first < last → (o ≡ Some d → IsLeast p q (first + 1) last d) → (b : Bool) → ((p * first) % q == 0) ≡ b → cond b (Some first) o ≡ Some d → IsLeast p q first last d
found_step p q first last d o lt rest true t e =
    let same : first ≡ d = cc in
    let here : (p * first) % q ≡ 0 = eqb-true ((p * first) % q) 0 t in
    record {
      from = omega arith;
      before = omega arith;
      whole = subst (λ n. (p * n) % q ≡ 0) same here;
      least = λ k low high w. absurd (omega arith);
    }
found_step p q first last d o lt rest false t e =
    let next = rest e in
    let out : (p * first) % q ≡ 0 → ⊥ = λ z. absurd (grind (arith, nat_tests)) in
    record {
      from = omega (arith, next.from);
      before = next.before;
      whole = next.whole;
      least = λ k low high w. elim (eq-or-lt_of_le low) as (λ _. ⊥) [ inl same ↦ out (subst (λ n. (p * n) % q ≡ 0) (sym same) w) | inr above ↦ next.least k (omega arith) high w ];
    }

found : (p q first n d : ℕ) → denominator_from p q first n ≡ Some d → IsLeast p q first (first + n) d
unfolding denominator_from
found p q first zero d e = absurd cc
found p q first (suc n) d e =
    let same : first + 1 + n ≡ first + suc n = omega arith in
    found_step p q first (first + suc n) d (denominator_from p q (first + 1) n) (omega arith)
    (λ h. subst (λ last. IsLeast p q (first + 1) last d) same (found p q (first + 1) n d h)) ((p * first) % q == 0) refl e

finds_step : (p q first d : ℕ) (o : Option ℕ) → first ≤ d → (p * d) % q ≡ 0 → (first < d → IsSome o) → (b : Bool) → ((p * first) % q == 0) ≡ b → IsSome (cond b (Some first) o)
finds_step p q first d o low w rest true t = search rules
finds_step p q first d o low w rest false t =
    elim (eq-or-lt_of_le low) as (λ _. IsSome o) [ inl same ↦ absurd (let here : (p * first) % q ≡ 0 = subst (λ n. (p * n) % q ≡ 0) (sym same) w in grind (arith, nat_tests)) | inr above ↦ rest above ]

finds : (p q first n d : ℕ) → first ≤ d → d < first + n → (p * d) % q ≡ 0 → IsSome (denominator_from p q first n)
unfolding denominator_from
finds p q first zero d low high w = absurd (omega arith)
finds p q first (suc n) d low high w =
    finds_step p q first d (denominator_from p q (first + 1) n) low w (λ above. finds p q (first + 1) n d (omega arith) (omega arith) w) ((p * first) % q == 0) refl

-- ---- quotients of signed numbers

no_rest : (x q : ℤ) → unsigned_abs q ∣ unsigned_abs x → int_rem x q ≡ pos 0
no_rest (pos a) q d = ap pos (mod-eq-zero_of_dvd (unsigned_abs q) d)
no_rest (negsuc a) q d = ap (λ n. neg_ℤ (pos n)) (mod-eq-zero_of_dvd (unsigned_abs q) d)

quotient_exact : (x q : ℤ) → unsigned_abs q ∣ unsigned_abs x → int_div x q *ℤ q ≡ x
quotient_exact x q d =
    sym (+ℤ_idr (int_div x q *ℤ q)) ∙ ap (λ z. int_div x q *ℤ q +ℤ z) (sym (no_rest x q d)) ∙ quot-rem x q

other_sign : (x : ℤ) (k : ℕ) → x *ℤ negsuc k ≡ neg_ℤ (x *ℤ pos (suc k))
other_sign (pos a) k = refl
other_sign (negsuc a) k = sym (neg_ℤ-neg_ℤ (pos (suc a * suc k)))

cancel_any : (x y q : ℤ) → 0 < unsigned_abs q → x *ℤ q ≡ y *ℤ q → x ≡ y
cancel_any x y (pos k) up e = cancel x y k up e
cancel_any x y (negsuc k) up e =
    let turned : neg_ℤ (x *ℤ pos (suc k)) ≡ neg_ℤ (y *ℤ pos (suc k)) = sym (other_sign x k) ∙ e ∙ other_sign y k in
    cancel x y (suc k) up (sym (neg_ℤ-neg_ℤ (x *ℤ pos (suc k))) ∙ ap neg_ℤ turned ∙ neg_ℤ-neg_ℤ (y *ℤ pos (suc k)))

-- ---- what a denominator that was found gives

one_only : (c d d' : ℕ) → d' * c ≡ d → 0 < d → (d' < d → ⊥) → c ≡ 1
one_only zero d d' e up h = let z : d' * 0 ≡ 0 = omega arith in absurd (omega arith)
one_only (suc zero) d d' e up h = refl
one_only (suc (suc c)) d d' e up h =
    let some : 0 < d' = elim (eq-zero-or-pos d') as (λ _. 0 < d') [ inl z ↦ absurd (let w : 0 * suc (suc c) ≡ d = subst (λ n. n * suc (suc c) ≡ d) z e in omega arith) | inr p ↦ p ] in
    let two : 2 ≤ suc (suc c) = omega arith in
    let twice : d' * 2 ≤ d' * suc (suc c) = mul-le-mul_left d' two in
    absurd (h (omega arith))

pub whole_above : (p q : ℤ) (d : ℕ) → (unsigned_abs p * d) % unsigned_abs q ≡ 0 → unsigned_abs q ∣ unsigned_abs (p *ℤ pos d)
whole_above p q d w = subst (λ n. unsigned_abs q ∣ n) (sym (unsigned_abs-mul p (pos d))) (dvd_of_mod-eq-zero (unsigned_abs q) w)

lowest : (u q p d : ℕ) → 0 < q → 0 < d → u * q ≡ p * d → ((k : ℕ) → 1 ≤ k → k < d → (p * k) % q ≡ 0 → ⊥) → AreCoprime u d
lowest u q p d some up size least = λ c cu cd.
    let positive : 0 < c = pos_of_dvd_of_pos cd up in
    let du : u / c * c ≡ u = div-mul_cancel c cu in
    let dd : d / c * c ≡ d = div-mul_cancel c cd in
    let left : p * (d / c) * c ≡ p * d = mul_assoc p (d / c) c ∙ ap (λ n. p * n) dd in
    let right : u / c * q * c ≡ u * q = mul_assoc (u / c) q c ∙ ap (λ n. u / c * n) (mul_comm q c) ∙ sym (mul_assoc (u / c) c q) ∙ ap (λ n. n * q) du in
    let crossed : p * (d / c) ≡ u / c * q = eq_of_mul-eq-mul_right c positive (p * (d / c)) (u / c * q) (left ∙ sym size ∙ sym right) in
    let whole : (p * (d / c)) % q ≡ 0 = ap (λ n. n % q) crossed ∙ mul-mod_left (u / c) q in
    let some : 1 ≤ d / c = elim (eq-zero-or-pos (d / c)) as (λ _. 1 ≤ d / c) [ inl z ↦ absurd (let w : 0 * c ≡ d = subst (λ n. n * c ≡ d) z dd in omega arith) | inr p ↦ p ] in
    one_only c d (d / c) dd up (λ lt. least (d / c) some lt whole)

from_test : (b : Bool) (x r : Fraction) → cond b (Some x) None ≡ Some r → (b ≡ true) × (x ≡ r)
from_test true x r e = (refl, cc)
from_test false x r e = absurd cc

fits-signed : (z : ℤ) → fits z ≡ true → FitsSigned w64 z
fits-signed (pos n) e = record { sfits = grind (arith, nat_tests) }
fits-signed (negsuc n) e = record { sfits = grind (arith, nat_tests) }

pub signed-fits : (z : ℤ) → FitsSigned w64 z → fits z ≡ true
signed-fits (pos n) h = let small : n < 2 ^ 63 = h.sfits in grind (arith, nat_tests)
signed-fits (negsuc n) h = let small : n < 2 ^ 63 = h.sfits in grind (arith, nat_tests)

sound_at : (p q : ℤ) (last d : ℕ) (r : Fraction) → 0 < unsigned_abs q → last ≤ 2 ^ 63 → IsLeast (unsigned_abs p) (unsigned_abs q) 1 last d → over p q d ≡ Some r → IsRatioOf p q r
sound_at p q last d r some small h e =
    let up = int_div (p *ℤ pos d) q in
    let t = from_test (fits up) (record { numerator = up; denominator = d }) r e in
    let whole = whole_above p q d h.whole in
    let stands : up *ℤ q ≡ p *ℤ pos d = quotient_exact (p *ℤ pos d) q whole in
    let size : unsigned_abs up * unsigned_abs q ≡ unsigned_abs p * d = sym (unsigned_abs-mul up q) ∙ ap unsigned_abs stands ∙ unsigned_abs-mul p (pos d) in
    let from = h.from in
    let before = h.before in
    subst (λ (f : Fraction). IsRatioOf p q f) t.1 (
      record {
        signed = fits-signed up t.0;
        above = omega arith;
        below = omega arith;
        lowest = lowest (unsigned_abs up) (unsigned_abs q) (unsigned_abs p) d some (omega arith) size h.least;
      },
      stands,
    )

sound : (p q : ℤ) (n : ℕ) (o : Option ℕ) (r : Fraction) → 0 < unsigned_abs q → 1 + n ≤ 2 ^ 63 → denominator_from (unsigned_abs p) (unsigned_abs q) 1 n ≡ o → option_and_then (over p q) o ≡ Some r → IsRatioOf p q r
sound p q n None r some small is e = absurd cc
sound p q n (Some d) r some small is e = sound_at p q (1 + n) d r some small (found (unsigned_abs p) (unsigned_abs q) 1 n d is) e

placed_at : (r : Fraction) (up : ℤ) → up ≡ r.numerator → FitsSigned w64 r.numerator → cond (fits up) (Some (record { numerator = up; denominator = r.denominator })) None ≡ Some r
placed_at r up same signed =
    subst (λ z. cond (fits z) (Some (record { numerator = z; denominator = r.denominator })) None ≡ Some r) (sym same) (
    ap (λ b. cond b (Some r) None) (signed-fits r.numerator signed)
    )

placed : (p q : ℤ) (r : Fraction) → 0 < unsigned_abs q → (unsigned_abs p * r.denominator) % unsigned_abs q ≡ 0 → FitsSigned w64 r.numerator → IsQuotient p q r → over p q r.denominator ≡ Some r
placed p q r some w signed e =
    let up = int_div (p *ℤ pos r.denominator) q in
    let same : up ≡ r.numerator = cancel_any up r.numerator q some (quotient_exact (p *ℤ pos r.denominator) q (whole_above p q r.denominator w) ∙ sym e) in
    placed_at r up same signed

complete_at : (p q : ℤ) (last d : ℕ) (r : Fraction) → 0 < unsigned_abs q → IsLeast (unsigned_abs p) (unsigned_abs q) 1 last d → IsRatio r → IsQuotient p q r → over p q d ≡ Some r
complete_at p q last d r some h is e =
    let P = unsigned_abs p in
    let Q = unsigned_abs q in
    let N = unsigned_abs r.numerator in
    let size : N * Q ≡ P * r.denominator = sym (unsigned_abs-mul r.numerator q) ∙ ap unsigned_abs e ∙ unsigned_abs-mul p (pos r.denominator) in
    let whole0 : (P * r.denominator) % Q ≡ 0 = ap (λ n. n % Q) (sym size) ∙ mul-mod_left N Q in
    let m = P * d / Q in
    let times : m * Q ≡ P * d = div-mul_cancel Q (dvd_of_mod-eq-zero Q h.whole) in
    let left : N * d * Q ≡ P * d * r.denominator =
    mul_assoc N d Q ∙ ap (λ n. N * n) (mul_comm d Q) ∙ sym (mul_assoc N Q d) ∙ ap (λ n. n * d) size
    ∙ mul_assoc P r.denominator d ∙ ap (λ n. P * n) (mul_comm r.denominator d) ∙ sym (mul_assoc P d r.denominator) in
    let right : m * r.denominator * Q ≡ P * d * r.denominator =
    mul_assoc m r.denominator Q ∙ ap (λ n. m * n) (mul_comm r.denominator Q) ∙ sym (mul_assoc m Q r.denominator) ∙ ap (λ n. n * r.denominator) times in
    let crossed : N * d ≡ m * r.denominator = eq_of_mul-eq-mul_right Q some (N * d) (m * r.denominator) (left ∙ sym right) in
    let divides : r.denominator ∣ N * d = subst (λ n. r.denominator ∣ n) (sym crossed) (dvd-mul_left r.denominator m) in
    let from = h.from in
    let under : r.denominator ≤ d = le_of_dvd (omega arith) (divides_other r.denominator N d (AreCoprime-swap N r.denominator is.lowest) divides) in
    let above = is.above in
    let same : r.denominator ≡ d = elim (eq-or-lt_of_le under) as (λ _. r.denominator ≡ d) [ inl s ↦ s | inr lt ↦ absurd (h.least r.denominator (omega arith) lt whole0) ] in
    subst (λ n. over p q n ≡ Some r) same (placed p q r some whole0 is.signed e)

complete : (p q : ℤ) (n : ℕ) (o : Option ℕ) (r : Fraction) → 0 < unsigned_abs q → denominator_from (unsigned_abs p) (unsigned_abs q) 1 n ≡ o → IsSome o → IsRatio r → IsQuotient p q r → option_and_then (over p q) o ≡ Some r
complete p q n None r some is there ratio e = absurd (search rules)
complete p q n (Some d) r some is there ratio e = complete_at p q (1 + n) d r some (found (unsigned_abs p) (unsigned_abs q) 1 n d is) ratio e

-- ---- the ratio that a quotient is

-- what is found is a ratio that the quotient is
pub ratio_of-sound : (p q : ℤ) (r : Fraction) → 0 < unsigned_abs q → ratio_of p q ≡ Some r → IsRatioOf p q r
unfolding ratio_of
ratio_of-sound p q r some e =
    sound p q (2 ^ 63 - 1) (denominator_from (unsigned_abs p) (unsigned_abs q) 1 (2 ^ 63 - 1)) r some (omega arith) refl e

-- the ratio that a quotient is, is found
pub ratio_of-complete : (p q : ℤ) (r : Fraction) → 0 < unsigned_abs q → IsRatioOf p q r → ratio_of p q ≡ Some r
unfolding ratio_of
ratio_of-complete p q r some h =
    let is = h.0 in
    let above = is.above in
    let below = is.below in
    let size : unsigned_abs r.numerator * unsigned_abs q ≡ unsigned_abs p * r.denominator = sym (unsigned_abs-mul r.numerator q) ∙ ap unsigned_abs h.1 ∙ unsigned_abs-mul p (pos r.denominator) in
    let whole : (unsigned_abs p * r.denominator) % unsigned_abs q ≡ 0 = ap (λ n. n % unsigned_abs q) (sym size) ∙ mul-mod_left (unsigned_abs r.numerator) (unsigned_abs q) in
    complete p q (2 ^ 63 - 1) (denominator_from (unsigned_abs p) (unsigned_abs q) 1 (2 ^ 63 - 1)) r some refl
    (finds (unsigned_abs p) (unsigned_abs q) 1 (2 ^ 63 - 1) r.denominator (omega arith) (omega arith) whole) is h.1

none_from : (p q : ℤ) (o : Option Fraction) → 0 < unsigned_abs q → ratio_of p q ≡ o → NoneIsQuotient p q → o ≡ None
none_from p q None some e h = refl
none_from p q (Some r) some e h = let is = ratio_of-sound p q r some e in absurd (h r is.0 is.1)

-- where no ratio is the quotient, none is found
pub ratio_of-none : (p q : ℤ) → 0 < unsigned_abs q → NoneIsQuotient p q → ratio_of p q ≡ None
ratio_of-none p q some h = none_from p q (ratio_of p q) some refl h

-- an answer that is the quotient's ratio, or none where there is none, is what is found
pub ratio_of-exact : (o : Option Fraction) (p q : ℤ) → 0 < unsigned_abs q → IfSome o (IsRatioOf p q) → IfNone o (NoneIsQuotient p q) → o ≡ ratio_of p q
ratio_of-exact None p q some h k = sym (ratio_of-none p q some k)
ratio_of-exact (Some r) p q some h k = sym (ratio_of-complete p q r some h)

-- what isn't 0 has a size
pub some_size : (q : ℤ) → (q ≡ pos 0 → ⊥) → 0 < unsigned_abs q
some_size (pos zero) h = absurd (h refl)
some_size (pos (suc n)) h = omega arith
some_size (negsuc n) h = omega arith

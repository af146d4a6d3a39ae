-- Numbers without a common divisor.
use Rattle.std.proofs.Common.{◌≡◌, ℕ, zero, suc, ◌+◌, ◌*◌, ◌/◌, ◌%◌, ◌<◌, sym, subst, arith, ◌∙◌, ap}
use Rattle.std.proofs.Math.Nat.{mul_comm, mul_assoc}
use Rattle.std.specs.Int.{◌∣◌, IsGcd}
use Rattle.std.proofs.lemmas.Nat.Gcd.{dvd_refl, dvd-zero, dvd_antisymm}
use native.Mathlib.Nat.{dvd-mod_iff, dvd-add_iff_right, dvd-mul_left, dvd-mul_right, dvd-mul_right_of_dvd, eq_of_mul-eq-mul_right, dvd_of_mul-dvd-mul_right, mul-dvd-mul, div-mul_cancel, div-add-mod, add-mul, eq-one_of_dvd-one}
use Rattle.traceql_value.specs.Fractions.{AreCoprime}

AreCoprime-step : (a b : ℕ) → AreCoprime a b → AreCoprime b (a % b)
AreCoprime-step a b h = λ d p q. h d ((dvd-mod_iff d p).0 q) p

parts : (a b c : ℕ) → b * c * (a / b) + a % b * c ≡ a * c
parts a b c =
    ap (λ n. n + a % b * c) (mul_assoc b c (a / b) ∙ ap (λ n. b * n) (mul_comm c (a / b)) ∙ sym (mul_assoc b (a / b) c))
    ∙ sym (add-mul (b * (a / b)) (a % b) c) ∙ ap (λ n. n * c) (div-add-mod a b)

-- a divisor of both products divides what they share
shared : (fuel a b c d : ℕ) → b < fuel → AreCoprime a b → d ∣ a * c → d ∣ b * c → d ∣ c
shared zero a b c d lt h p q = absurd (omega arith)
shared (suc n) a zero c d lt h p q =
    let one : a ≡ 1 = h a (dvd_refl a) (dvd-zero a) in
    let e : a * c ≡ c = rw one (omega arith) in
    rw e at p
shared (suc n) a (suc b) c d lt h p q =
    let small : a % suc b < n = omega arith in
    let whole : d ∣ suc b * c * (a / suc b) + a % suc b * c = rw (parts a (suc b) c) p in
    shared n (suc b) (a % suc b) c d small (AreCoprime-step a (suc b) h) q
    ((dvd-add_iff_right d (dvd-mul_right_of_dvd d q (a / suc b))).1 whole)

-- what divides a product and shares nothing with one factor divides the other
pub divides_other : (a b c : ℕ) → AreCoprime a b → a ∣ b * c → a ∣ c
divides_other a b c h q = shared (suc b) a b c a (omega arith) h (dvd-mul_right a c) q

pub AreCoprime-swap : (a b : ℕ) → AreCoprime a b → AreCoprime b a
AreCoprime-swap a b h = λ d p q. h d q p

-- two fractions in lowest terms that are equal are one
pub one_form : (a b c d : ℕ) → AreCoprime a b → AreCoprime c d → 0 < b → a * d ≡ c * b → (a ≡ c) × (b ≡ d)
one_form a b c d h k up e =
    let l : b ∣ a * d = rw e (dvd-mul_left b c) in
    let r : d ∣ c * b = rw (← e) (dvd-mul_left d a) in
    let same : b ≡ d = dvd_antisymm (divides_other b a d (AreCoprime-swap a b h) l) (divides_other d c b (AreCoprime-swap c d k) r) in
    (eq_of_mul-eq-mul_right b up a c (subst (λ n. a * n ≡ c * b) (sym same) e), same)

-- what is left of two numbers by their greatest common divisor shares nothing
pub AreCoprime-from_gcd : (a b g : ℕ) → 0 < g → IsGcd a b g → AreCoprime (a / g) (b / g)
AreCoprime-from_gcd a b g up h = λ d p q.
    let x : d * g ∣ a / g * g = mul-dvd-mul d g p (dvd_refl g) in
    let y : d * g ∣ b / g * g = mul-dvd-mul d g q (dvd_refl g) in
    let z : d * g ∣ g = h.2 (d * g) (rw (div-mul_cancel g h.0) at x) (rw (div-mul_cancel g h.1) at y) in
    let e : d * g ∣ 1 * g = subst (λ n. d * g ∣ n) (omega arith) z in
    eq-one_of_dvd-one (dvd_of_mul-dvd-mul_right d up e)

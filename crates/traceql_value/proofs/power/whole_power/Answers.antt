use Rattle.std.proofs.Common.{◌≡◌, ◌≢◌, ℕ, zero, suc, ◌*◌, ◌%◌, ◌<◌, ◌≤◌, ◌^◌, ℤ, pos, negsuc, FitsSigned, w64, cond, sym, ap, subst, ◌∙◌, refl, arith, rules, eq-eqb, to_z, of_z, ◌⊎◌, inl, inr}
use Rattle.std.proofs.lemmas.Bool.{ne_eqb}
use Rattle.std.specs.Prelude.{neg_ℤ, ◌==◌, Bool, true, false}
use Rattle.std.specs.Int.{int_pow}
use Rattle.std.proofs.lemmas.Int.{to_z-of_z}
use native.Mathlib.Nat.{pow-le-pow_left, pow-le-pow_right, pow-suc}
use Rattle.traceql_value.proofs.power.whole_power.Goals as goal
use Rattle.traceql_value.proofs.power.whole_power.Goals.{then-base-eq0-via-then-base-eq0, then-base-eq0-via-else-base-eq0+then-base-eq1}

one_power : (e : ℕ) → 1 ^ e ≡ 1
one_power zero = refl
one_power (suc e) = pow-suc 1 e ∙ ap (λ n. n * 1) (one_power e)

zero_power : (e : ℕ) → 0 < e → 0 ^ e ≡ 0
zero_power zero up = absurd (omega arith)
zero_power (suc e) up = pow-suc 0 e ∙ omega arith

many : (n e : ℕ) → 2 ≤ n → 64 ≤ e → 2 ^ 64 ≤ n ^ e
many n e h k = let a : 2 ^ 64 ≤ 2 ^ e = pow-le-pow_right (omega arith) k in let b : 2 ^ e ≤ n ^ e = pow-le-pow_left h e in omega arith

too_far : (even : Bool) (n : ℕ) → 2 ^ 64 ≤ n → FitsSigned w64 (cond even (pos n) (neg_ℤ (pos n))) → ⊥
too_far true n h f = let s = f.sfits in omega arith
too_far false zero h f = omega arith
too_far false (suc n) h f = let s = f.sfits in omega arith

beyond : (z : ℤ) (e : ℕ) → 64 ≤ e → z ≢ pos 0 → z ≢ pos 1 → z ≢ negsuc 0 → FitsSigned w64 (int_pow z e) → ⊥
beyond (pos zero) e k a b d f = absurd (a refl)
beyond (pos (suc zero)) e k a b d f = absurd (b refl)
beyond (pos (suc (suc n))) e k a b d f = let m = many (suc (suc n)) e (omega arith) k in let s = f.sfits in omega arith
beyond (negsuc zero) e k a b d f = absurd (d refl)
beyond (negsuc (suc n)) e k a b d f =
    let m = many (suc (suc n)) e (omega arith) k in
    too_far (e % 2 == 0) (suc (suc n) ^ e) m f

idle : (z : ℤ) (e : ℕ) → 0 < e → (z ≡ pos 0) ⊎ (z ≡ pos 1) → int_pow z e ≡ z
idle z e up (inl h) = ap (λ x. int_pow x e) h ∙ ap pos (zero_power e up) ∙ sym h
idle z e up (inr h) = ap (λ x. int_pow x e) h ∙ ap pos (one_power e) ∙ sym h

kept : (z : ℤ) (e : ℕ) → FitsSigned w64 z → 0 < e → (z ≡ pos 0) ⊎ (z ≡ pos 1) → FitsSigned w64 (int_pow z e) × (to_z w64 (of_z w64 z) ≡ int_pow z e)
kept z e fits up h =
    let same = idle z e up h in
    (subst (FitsSigned w64) (sym same) fits, to_z-of_z w64 z fits ∙ sym same)

turned : (e : ℕ) (v : Bool) → (e % 2 == 0) ≡ v → int_pow (negsuc 0) e ≡ cond v (pos 1) (negsuc 0)
turned e v h = ap (λ b. cond b (pos (1 ^ e)) (neg_ℤ (pos (1 ^ e)))) h ∙ ap (λ n. cond v (pos n) (neg_ℤ (pos n))) (one_power e)

from_bits : (z : ℤ) (n : ℕ) → FitsSigned w64 z → of_z w64 z ≡ n → z ≡ to_z w64 n
from_bits z n f e = sym (to_z-of_z w64 z f) ∙ ap (to_z w64) e

fits_one : FitsSigned w64 (pos 1)
fits_one = search rules

fits_minus_one : FitsSigned w64 (negsuc 0)
fits_minus_one = search rules

pub returns-then-base-eq0 : goal.returns-then-base-eq0
returns-then-base-eq0 c =
    let up : 0 < c.args.exponent = omega (arith, c.in_default.ensures) in
    kept c.args.base c.args.exponent c.ranges.base up
    (elim c.then-base-eq0.branch [
      | then-base-eq0-via-then-base-eq0 w ↦ inl (from_bits c.args.base 0 c.ranges.base w.if-base-eq0.true)
      | then-base-eq0-via-else-base-eq0+then-base-eq1 w ↦ inr (from_bits c.args.base 1 c.ranges.base w.if-base-eq1.true)
    ])

pub returns-then-exponent-eq0 : goal.returns-then-exponent-eq0
returns-then-exponent-eq0 c =
    let is : int_pow c.args.base c.args.exponent ≡ pos 1 =
    ap (λ z. int_pow z c.args.exponent) (from_bits c.args.base 18446744073709551615 c.ranges.base c.if-base-eqminus1.true) ∙ turned c.args.exponent true (eq-eqb (c.args.exponent % 2) 0 c.if-exponent-eq0.true) in
    (subst (FitsSigned w64) (sym is) fits_one, sym is)

pub returns-else-exponent-eq0 : goal.returns-else-exponent-eq0
returns-else-exponent-eq0 c =
    let is : int_pow c.args.base c.args.exponent ≡ negsuc 0 =
    ap (λ z. int_pow z c.args.exponent) (from_bits c.args.base 18446744073709551615 c.ranges.base c.if-base-eqminus1.true) ∙ turned c.args.exponent false (ne_eqb (c.args.exponent % 2) 0 c.if-exponent-eq0.false) in
    (subst (FitsSigned w64) (sym is) fits_minus_one, sym is)

pub returns : goal.returns
returns c =
    let far : 64 ≤ c.args.exponent = omega (arith, c.in_default.ensures) in
    beyond c.args.base c.args.exponent far
    (λ e. c.if-base-eq0.false (ap (of_z w64) e)) (λ e. c.if-base-eq1.false (ap (of_z w64) e)) (λ e. c.if-base-eqminus1.false (ap (of_z w64) e))

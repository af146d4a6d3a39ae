-- What adding a part does to the running sum, and what token a sum is.
use Rattle.std.proofs.Common.{◌≡◌, ℕ, zero, suc, ◌+◌, ◌-◌, ◌*◌, ◌/◌, ◌%◌, ◌^◌, ◌<◌, ◌≤◌, min, max, Bool, true, false, ◌&&◌, ◌⊎◌, inl, inr, cond, eqb, nat_le, List, [], ◌∷◌, ◌++◌, length, replicate, refl, ap, ap₂, sym, ◌∙◌, subst, arith, mul-le-mul, le-leb, pow-suc, ne_eqb, eq-eqb, eqb-true}
use Rattle.std.specs.List.{list_all}
use Rattle.std.proofs.lemmas.Nat.{pow-add, div-mul-add, mod-mul-add}
use Rattle.std.proofs.lemmas.List.{length-replicate}
use Rattle.traceql_tokens.specs.Bytes.{decimal}
use Rattle.traceql_tokens.specs.Fixed.{unit_nanos}
use Rattle.traceql_tokens.specs.Numbers.{LIMIT, Part, places, scaled}
use Rattle.traceql_tokens.specs.NumberWalk.{duration_kind}
use Rattle.traceql_tokens.specs.Sums.{AreColumns, column_value, Holds}
use Rattle.std.proofs.lemmas.Bool.Decides.{nat_tests}
use Rattle.traceql_tokens.specs.declared.numbers.Sum.{Sum}
use Rattle.traceql_tokens.specs.declared.units.TimeUnit.{TimeUnit}
use Rattle.traceql_tokens.specs.declared.units.TimeUnit.TheVariants as unit
use Rattle.traceql_tokens.specs.declared.kinds.Class.TheVariants as class
use Rattle.traceql_tokens.specs.declared.kinds.Fault.TheVariants as fault
use Rattle.traceql_tokens.specs.declared.kinds.TokenKind.TheVariants as token
use Rattle.traceql_tokens.proofs.Columns.{value_append, value_cons}
use Rattle.traceql_tokens.proofs.Prefixes.{both}

places_append : (ps : List Part) (p : Part) → places (ps ++ p ∷ []) ≡ max (places ps) (length p.fraction)
places_append [] p = omega arith
places_append (q ∷ ps) p = let e = places_append ps p in omega arith

scaled_append : (k : ℕ) (ps : List Part) (p : Part) → scaled k (ps ++ p ∷ []) ≡ scaled k ps + decimal (p.whole ++ p.fraction) * unit_nanos p.unit * 10 ^ (k - length p.fraction)
scaled_append k [] p = omega arith
scaled_append k (q ∷ ps) p = let e = scaled_append k ps p in omega arith

scaled_up : (k j : ℕ) (ps : List Part) → places ps ≤ k → scaled (k + j) ps ≡ scaled k ps * 10 ^ j
scaled_up k j [] h = omega arith
scaled_up k j (p ∷ ps) h =
    let e = scaled_up k j ps (omega arith) in
    let n : k + j - length p.fraction ≡ k - length p.fraction + j = omega arith in
    let q : 10 ^ (k + j - length p.fraction) ≡ 10 ^ (k - length p.fraction) * 10 ^ j = ap (λ m. 10 ^ m) n ∙ pow-add 10 (k - length p.fraction) j in
    let r : decimal (p.whole ++ p.fraction) * unit_nanos p.unit * 10 ^ (k + j - length p.fraction) ≡ decimal (p.whole ++ p.fraction) * unit_nanos p.unit * (10 ^ (k - length p.fraction) * 10 ^ j) = ap (λ m. decimal (p.whole ++ p.fraction) * unit_nanos p.unit * m) q in
    omega arith

zeros_value : (n : ℕ) → column_value (replicate n 0) ≡ 0
zeros_value zero = refl
zeros_value (suc n) = zeros_value n

widened_value : (cs : List ℕ) (n : ℕ) → column_value (cs ++ replicate n 0) ≡ column_value cs * 10 ^ n
widened_value cs n =
    let z : column_value cs * 10 ^ n + 0 ≡ column_value cs * 10 ^ n = omega arith in
    value_append (λ c. c) cs (replicate n 0) ∙ ap₂ (λ k v. column_value cs * 10 ^ k + v) (length-replicate n 0) (zeros_value n) ∙ z

nanos_some : (u : TimeUnit) → 1 ≤ unit_nanos u
nanos_some unit.Nanos = omega arith
nanos_some unit.Micros = omega arith
nanos_some unit.Millis = omega arith
nanos_some unit.Seconds = omega arith
nanos_some unit.Minutes = omega arith
nanos_some unit.Hours = omega arith

below_or : (a b : ℕ) → (a ≤ b) ⊎ (b < a)
below_or a b = grind arith

-- sums that saturate at the limit are the sum, saturated at the limit
capped_sum : (a w u c : ℕ) → 1 ≤ u → (w ≤ LIMIT) ⊎ (LIMIT < w) → min (min a LIMIT + min w LIMIT * u + c) LIMIT ≡ min (a + w * u + c) LIMIT
capped_sum a w u c h (inl small) =
    let e : min w LIMIT ≡ w = omega arith in
    let f : min w LIMIT * u ≡ w * u = ap (λ z. z * u) e in
    omega arith
capped_sum a w u c h (inr large) =
    let e : min w LIMIT ≡ LIMIT = omega arith in
    let f : min w LIMIT * u ≡ LIMIT * u = ap (λ z. z * u) e in
    let g : LIMIT * u ≤ w * u = mul-le-mul (omega arith) (omega arith) in
    omega arith

-- the same digits times powers of ten
total_arith : (W da sa db dc carry dw df u A B C E M : ℕ) → W * A + da ≡ sa → db ≡ da * B → A * B ≡ M → dc + carry * M ≡ db + u * df * E → C * E ≡ M → (W + dw * u + carry) * M + dc ≡ sa * B + (dw * C + df) * u * E
total_arith W da sa db dc carry dw df u A B C E M e1 e2 e3 e4 e5 =
    let m1 : (W * A + da) * B ≡ sa * B = ap (λ z. z * B) e1 in
    let m2 : W * (A * B) ≡ W * M = ap (λ z. W * z) e3 in
    let m3 : (dw * u) * (C * E) ≡ (dw * u) * M = ap (λ z. (dw * u) * z) e5 in
    omega arith

-- the sum after a part is added
pub added : (s t : Sum) (ps : List Part) (p : Part) (carry M : ℕ) (wide : List ℕ) → Holds s ps → M ≡ max (length s.columns.items) (length p.fraction)
    → wide ≡ s.columns.items ++ replicate (M - length s.columns.items) 0
    → AreColumns t.columns.items → length t.columns.items ≡ M
    → column_value t.columns.items + carry * 10 ^ M ≡ column_value wide + unit_nanos p.unit * decimal p.fraction * 10 ^ (M - length p.fraction)
    → t.whole ≡ min (s.whole + min (decimal p.whole) LIMIT * unit_nanos p.unit + carry) LIMIT
    → Holds t (ps ++ p ∷ [])
added s t ps p carry M wide held eM eW columns len sum whole =
    let m = length s.columns.items in
    let n = length p.fraction in
    let u = unit_nanos p.unit in
    let depth : m ≡ places ps = held.depth in
    let most : M ≡ places (ps ++ p ∷ []) = omega (arith, places_append ps p) in
    let b : m + (M - m) ≡ M = omega arith in
    let c : n + (M - n) ≡ M = omega arith in
    let up : scaled M ps ≡ scaled (places ps) ps * 10 ^ (M - m) =
    ap (λ k. scaled k ps) (sym b) ∙ ap (λ k. scaled (k + (M - m)) ps) depth ∙ scaled_up (places ps) (M - m) ps (omega arith) in
    let before : held.carried * 10 ^ m + column_value s.columns.items ≡ scaled (places ps) ps = ap (λ k. held.carried * 10 ^ k + column_value s.columns.items) depth ∙ held.total in
    let widened : column_value wide ≡ column_value s.columns.items * 10 ^ (M - m) = ap column_value eW ∙ widened_value s.columns.items (M - m) in
    let powers : 10 ^ m * 10 ^ (M - m) ≡ 10 ^ M = sym (pow-add 10 m (M - m)) ∙ ap (λ k. 10 ^ k) b in
    let fractions : 10 ^ n * 10 ^ (M - n) ≡ 10 ^ M = sym (pow-add 10 n (M - n)) ∙ ap (λ k. 10 ^ k) c in
    let digits : decimal (p.whole ++ p.fraction) ≡ decimal p.whole * 10 ^ n + decimal p.fraction = value_append (λ d. d - 48) p.whole p.fraction in
    let total : (held.carried + decimal p.whole * u + carry) * 10 ^ M + column_value t.columns.items ≡ scaled M (ps ++ p ∷ []) =
    total_arith held.carried (column_value s.columns.items) (scaled (places ps) ps) (column_value wide) (column_value t.columns.items) carry (decimal p.whole) (decimal p.fraction) u (10 ^ m) (10 ^ (M - m)) (10 ^ n) (10 ^ (M - n)) (10 ^ M) before widened powers sum fractions
    ∙ ap₂ (λ x y. x + y * u * 10 ^ (M - n)) (sym up) (sym digits)
    ∙ sym (scaled_append M ps p) in
    record {
      carried = held.carried + decimal p.whole * u + carry;
      whole = whole ∙ ap (λ z. min (z + min (decimal p.whole) LIMIT * u + carry) LIMIT) held.whole ∙ capped_sum held.carried (decimal p.whole) u carry (nanos_some p.unit) (below_or (decimal p.whole) LIMIT);
      depth = len ∙ most;
      columns = columns;
      total = subst (λ k. (held.carried + decimal p.whole * u + carry) * 10 ^ k + column_value t.columns.items ≡ scaled k (ps ++ p ∷ [])) most total;
    }

zero_digits : (cs : List ℕ) → list_all (λ c. eqb c 0) cs ≡ true → column_value cs ≡ 0
zero_digits [] h = refl
zero_digits (c ∷ cs) h =
    let parts = both (eqb c 0) (list_all (λ x. eqb x 0) cs) h in
    let z : c ≡ 0 = eqb-true c 0 parts.0 in
    let e = value_cons (λ x. x) c cs in
    let ih = zero_digits cs parts.1 in
    let p : c * 10 ^ length cs ≡ 0 * 10 ^ length cs = ap (λ x. x * 10 ^ length cs) z in
    omega arith

pub power_some : (n : ℕ) → 1 ≤ 10 ^ n
power_some zero = omega arith
power_some (suc n) = let ih = power_some n in let p : 10 ^ suc n ≡ 10 ^ n * 10 = pow-suc 10 n in omega arith

some_digit : (c : ℕ) (cs : List ℕ) (b : Bool) → eqb c 0 ≡ b → (b && list_all (λ x. eqb x 0) cs) ≡ false → (list_all (λ x. eqb x 0) cs ≡ false → 1 ≤ column_value cs) → 1 ≤ column_value (c ∷ cs)
some_digit c cs true e h ih = let f = value_cons (λ x. x) c cs in let i = ih h in omega arith
some_digit c cs false e h ih =
    let pos : 1 ≤ c = grind (arith, nat_tests) in
    let f = value_cons (λ x. x) c cs in
    let p : 1 * 1 ≤ c * 10 ^ length cs = mul-le-mul pos (power_some (length cs)) in
    omega arith

digits_some : (cs : List ℕ) → list_all (λ c. eqb c 0) cs ≡ false → 1 ≤ column_value cs
digits_some [] h = absurd (cc)
digits_some (c ∷ cs) h = some_digit c cs (eqb c 0) refl h (digits_some cs)

digits_below : (cs : List ℕ) → AreColumns cs → column_value cs < 10 ^ length cs
digits_below [] h = omega arith
digits_below (c ∷ cs) h =
    let ih = digits_below cs (λ k d l. h (suc k) d (omega arith)) in
    let first : c < 10 = h 0 0 (omega arith) in
    let f = value_cons (λ x. x) c cs in
    let p : 10 ^ suc (length cs) ≡ 10 ^ length cs * 10 = pow-suc 10 (length cs) in
    let q : c * 10 ^ length cs ≤ 9 * 10 ^ length cs = mul-le-mul (omega arith) (omega arith) in
    omega arith

-- what the sum is, over its power of ten
kind_range : (k s W v : ℕ) → W * 10 ^ k + v ≡ s → v < 10 ^ k → LIMIT ≤ W → duration_kind k s ≡ token.Broken class.Duration fault.NumberRange
unfolding duration_kind
kind_range k s W v e h large =
    let q : LIMIT * 10 ^ k ≤ W * 10 ^ k = mul-le-mul large (omega arith) in
    ap (λ b. cond b (token.Broken class.Duration fault.NumberRange) (cond (eqb (s % 10 ^ k) 0) (token.Duration (s / 10 ^ k)) (token.Broken class.Duration fault.FractionLiteral))) (le-leb (LIMIT * 10 ^ k) s (omega arith))

not_range : (k s W v : ℕ) → W * 10 ^ k + v ≡ s → v < 10 ^ k → W < LIMIT → nat_le (LIMIT * 10 ^ k) s ≡ false
not_range k s W v e h small =
    let q : (W + 1) * 10 ^ k ≤ LIMIT * 10 ^ k = mul-le-mul (omega arith) (omega arith) in
    let less : s < LIMIT * 10 ^ k = omega arith in
    grind (arith, nat_tests)

kind_in_range : (k s W v : ℕ) → W * 10 ^ k + v ≡ s → v < 10 ^ k → W < LIMIT → duration_kind k s ≡ cond (eqb v 0) (token.Duration W) (token.Broken class.Duration fault.FractionLiteral)
unfolding duration_kind
kind_in_range k s W v e h small =
    let m : s % 10 ^ k ≡ v = ap (λ z. z % 10 ^ k) (sym e) ∙ mod-mul-add W (10 ^ k) v h in
    let d : s / 10 ^ k ≡ W = ap (λ z. z / 10 ^ k) (sym e) ∙ div-mul-add W (10 ^ k) v h in
    ap (λ b. cond b (token.Broken class.Duration fault.NumberRange) (cond (eqb (s % 10 ^ k) 0) (token.Duration (s / 10 ^ k)) (token.Broken class.Duration fault.FractionLiteral))) (not_range k s W v e h small)
    ∙ ap₂ (λ x y. cond (eqb x 0) (token.Duration y) (token.Broken class.Duration fault.FractionLiteral)) m d

below_places : (s : Sum) (ps : List Part) → Holds s ps → column_value s.columns.items < 10 ^ places ps
below_places s ps held = subst (λ k. column_value s.columns.items < 10 ^ k) held.depth (digits_below s.columns.items held.columns)

pub sum_range : (s : Sum) (ps : List Part) → Holds s ps → LIMIT ≤ s.whole → token.Broken class.Duration fault.NumberRange ≡ duration_kind (places ps) (scaled (places ps) ps)
sum_range s ps held large =
    let w = held.whole in
    sym (kind_range (places ps) (scaled (places ps) ps) held.carried (column_value s.columns.items) held.total (below_places s ps held) (omega arith))

pub sum_whole : (s : Sum) (ps : List Part) → Holds s ps → s.whole < LIMIT → list_all (λ c. eqb c 0) s.columns.items ≡ true → token.Duration s.whole ≡ duration_kind (places ps) (scaled (places ps) ps)
sum_whole s ps held small zeros =
    let w = held.whole in
    let same : held.carried ≡ s.whole = omega arith in
    ap token.Duration (sym same)
    ∙ ap (λ b. cond b (token.Duration held.carried) (token.Broken class.Duration fault.FractionLiteral)) (sym (eq-eqb (column_value s.columns.items) 0 (zero_digits s.columns.items zeros)))
    ∙ sym (kind_in_range (places ps) (scaled (places ps) ps) held.carried (column_value s.columns.items) held.total (below_places s ps held) (omega arith))

pub sum_fraction : (s : Sum) (ps : List Part) → Holds s ps → s.whole < LIMIT → list_all (λ c. eqb c 0) s.columns.items ≡ false → token.Broken class.Duration fault.FractionLiteral ≡ duration_kind (places ps) (scaled (places ps) ps)
sum_fraction s ps held small some =
    let w = held.whole in
    let pos = digits_some s.columns.items some in
    ap (λ b. cond b (token.Duration held.carried) (token.Broken class.Duration fault.FractionLiteral)) (sym (ne_eqb (column_value s.columns.items) 0 (λ z. absurd (omega arith))))
    ∙ sym (kind_in_range (places ps) (scaled (places ps) ps) held.carried (column_value s.columns.items) held.total (below_places s ps held) (omega arith))

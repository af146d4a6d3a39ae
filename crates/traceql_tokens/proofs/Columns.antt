-- Decimal digits as numbers: what one digit is worth, and one step of the addition of a fraction.
use Rattle.std.proofs.Common.{◌≡◌, ℕ, zero, suc, ◌+◌, ◌-◌, ◌*◌, ◌/◌, ◌%◌, ◌^◌, ◌<◌, ◌≤◌, List, [], ◌∷◌, ◌++◌, length, get_or, drop, set, fold, refl, ap, sym, ◌∙◌, arith, pow-suc, mul-le-mul, div-add-mod', length-append, length-set, length-drop, subst, true}
use Rattle.std.proofs.lemmas.Nat.{pow-add, mod_below}
use Rattle.std.proofs.lemmas.List.{drop_more}
use Rattle.std.specs.Char.{is_ascii_digit}
use Rattle.std.proofs.lemmas.Bool.Decides.{nat_tests}
use Rattle.std.proofs.lemmas.List.Elements.{All-set}
use Rattle.std.proofs.lemmas.List.Sums.{AllPass-from_list_all}
use Rattle.traceql_tokens.specs.Bytes.{AreDigits, decimal}
use Rattle.traceql_tokens.specs.Sums.{AreColumns, column_value}

pow_more : (n : ℕ) → 10 ^ suc n ≡ 10 * 10 ^ n
pow_more n = let p : 10 ^ suc n ≡ 10 ^ n * 10 = pow-suc 10 n in omega arith

-- a fold that begins at a has a in front of its digits
value_from : (g : ℕ → ℕ) (a : ℕ) (cs : List ℕ) → fold (λ n c. 10 * n + g c) a cs ≡ a * 10 ^ length cs + fold (λ n c. 10 * n + g c) 0 cs
value_from g a [] = omega arith
value_from g a (c ∷ cs) =
    let p = pow_more (length cs) in
    let q : a * 10 ^ suc (length cs) ≡ a * (10 * 10 ^ length cs) = ap (λ z. a * z) p in
    let e = value_from g (10 * a + g c) cs in
    let f = value_from g (10 * 0 + g c) cs in
    omega arith

pub value_cons : (g : ℕ → ℕ) (c : ℕ) (cs : List ℕ) → fold (λ n c. 10 * n + g c) 0 (c ∷ cs) ≡ g c * 10 ^ length cs + fold (λ n c. 10 * n + g c) 0 cs
value_cons g c cs = let f = value_from g (10 * 0 + g c) cs in omega arith

pub value_append : (g : ℕ → ℕ) (xs ys : List ℕ) → fold (λ n c. 10 * n + g c) 0 (xs ++ ys) ≡ fold (λ n c. 10 * n + g c) 0 xs * 10 ^ length ys + fold (λ n c. 10 * n + g c) 0 ys
value_append g [] ys = omega arith
value_append g (x ∷ xs) ys =
    let e = value_append g xs ys in
    let f = value_cons g x (xs ++ ys) in
    let h = value_cons g x xs in
    let l : length (xs ++ ys) ≡ length xs + length ys = length-append xs ys in
    let p : 10 ^ length (xs ++ ys) ≡ 10 ^ length xs * 10 ^ length ys = ap (λ n. 10 ^ n) l ∙ pow-add 10 (length xs) (length ys) in
    let q : g x * 10 ^ length (xs ++ ys) ≡ g x * (10 ^ length xs * 10 ^ length ys) = ap (λ z. g x * z) p in
    let r : fold (λ n c. 10 * n + g c) 0 (x ∷ xs) * 10 ^ length ys ≡ (g x * 10 ^ length xs + fold (λ n c. 10 * n + g c) 0 xs) * 10 ^ length ys = ap (λ z. z * 10 ^ length ys) h in
    omega arith

-- one digit in another's place
pub column_set : (cs : List ℕ) (i x : ℕ) → i < length cs → column_value (set cs i x) + get_or cs i 0 * 10 ^ (length cs - 1 - i) ≡ column_value cs + x * 10 ^ (length cs - 1 - i)
column_set [] i x h = absurd (omega arith)
column_set (c ∷ cs) zero x h =
    let n : suc (length cs) - 1 - 0 ≡ length cs = omega arith in
    let p : 10 ^ (suc (length cs) - 1 - 0) ≡ 10 ^ length cs = ap (λ k. 10 ^ k) n in
    let a : c * 10 ^ (suc (length cs) - 1 - 0) ≡ c * 10 ^ length cs = ap (λ z. c * z) p in
    let b : x * 10 ^ (suc (length cs) - 1 - 0) ≡ x * 10 ^ length cs = ap (λ z. x * z) p in
    let e = value_cons (λ z. z) x cs in
    let f = value_cons (λ z. z) c cs in
    omega arith
column_set (c ∷ cs) (suc i) x h =
    let n : suc (length cs) - 1 - suc i ≡ length cs - 1 - i = omega arith in
    let p : 10 ^ (suc (length cs) - 1 - suc i) ≡ 10 ^ (length cs - 1 - i) = ap (λ k. 10 ^ k) n in
    let a : get_or cs i 0 * 10 ^ (suc (length cs) - 1 - suc i) ≡ get_or cs i 0 * 10 ^ (length cs - 1 - i) = ap (λ z. get_or cs i 0 * z) p in
    let b : x * 10 ^ (suc (length cs) - 1 - suc i) ≡ x * 10 ^ (length cs - 1 - i) = ap (λ z. x * z) p in
    let e = value_cons (λ z. z) c (set cs i x) in
    let f = value_cons (λ z. z) c cs in
    let l : c * 10 ^ length (set cs i x) ≡ c * 10 ^ length cs = ap (λ k. c * 10 ^ k) (length-set cs i x) in
    let ih = column_set cs i x (omega arith) in
    omega arith

-- the digits from one place on
pub decimal_drop : (fs : List ℕ) (i : ℕ) → i < length fs → decimal (drop i fs) ≡ (get_or fs i 0 - 48) * 10 ^ length (drop (i + 1) fs) + decimal (drop (i + 1) fs)
decimal_drop fs i h = ap decimal (drop_more fs i 0 h) ∙ value_cons (λ d. d - 48) (get_or fs i 0) (drop (i + 1) fs)

step_arith : (V' V V0 ci t r q d nanos carry P Q R S : ℕ) → V' + ci * P ≡ V + r * P → q * 10 + r ≡ t → t ≡ ci + d * nanos + carry → V + carry * P ≡ V0 + nanos * R * S → Q * S ≡ P → V' + q * (10 * P) ≡ V0 + nanos * (d * Q + R) * S
step_arith V' V V0 ci t r q d nanos carry P Q R S e1 e2 e3 e4 e5 =
    let m1 : (q * 10 + r) * P ≡ (ci + d * nanos + carry) * P = ap (λ z. z * P) (e2 ∙ e3) in
    let m2 : (nanos * d) * (Q * S) ≡ (nanos * d) * P = ap (λ z. (nanos * d) * z) e5 in
    omega arith

-- One step: the digit before place `left` is added, and its carry replaces the one before.
pub add_step : (cs fs : List ℕ) (i d nanos carry V0 : ℕ) → i < length fs → length fs ≤ length cs → d ≡ get_or fs i 0 - 48
    → column_value cs + carry * 10 ^ (length cs - (i + 1)) ≡ V0 + nanos * decimal (drop (i + 1) fs) * 10 ^ (length cs - length fs)
    → column_value (set cs i ((get_or cs i 0 + d * nanos + carry) % 10)) + (get_or cs i 0 + d * nanos + carry) / 10 * 10 ^ (length cs - i) ≡ V0 + nanos * decimal (drop i fs) * 10 ^ (length cs - length fs)
add_step cs fs i d nanos carry V0 h room e inv =
    let t = get_or cs i 0 + d * nanos + carry in
    let n1 : length cs - 1 - i ≡ length cs - (i + 1) = omega arith in
    let put : column_value (set cs i (t % 10)) + get_or cs i 0 * 10 ^ (length cs - (i + 1)) ≡ column_value cs + (t % 10) * 10 ^ (length cs - (i + 1)) =
    subst (λ k. column_value (set cs i (t % 10)) + get_or cs i 0 * 10 ^ k ≡ column_value cs + (t % 10) * 10 ^ k) n1 (column_set cs i (t % 10) (omega arith)) in
    let split : t / 10 * 10 + t % 10 ≡ t = div-add-mod' t 10 in
    let n2 : length cs - i ≡ suc (length cs - (i + 1)) = omega arith in
    let up : 10 ^ (length cs - i) ≡ 10 * 10 ^ (length cs - (i + 1)) = ap (λ k. 10 ^ k) n2 ∙ pow_more (length cs - (i + 1)) in
    let n3 : length (drop (i + 1) fs) + (length cs - length fs) ≡ length cs - (i + 1) = omega (arith, length-drop (i + 1) fs) in
    let join : 10 ^ length (drop (i + 1) fs) * 10 ^ (length cs - length fs) ≡ 10 ^ (length cs - (i + 1)) = sym (pow-add 10 (length (drop (i + 1) fs)) (length cs - length fs)) ∙ ap (λ k. 10 ^ k) n3 in
    let digits : decimal (drop i fs) ≡ d * 10 ^ length (drop (i + 1) fs) + decimal (drop (i + 1) fs) = decimal_drop fs i h ∙ ap (λ z. z * 10 ^ length (drop (i + 1) fs) + decimal (drop (i + 1) fs)) (sym e) in
    ap (λ z. column_value (set cs i (t % 10)) + t / 10 * z) up
    ∙ step_arith (column_value (set cs i (t % 10))) (column_value cs) V0 (get_or cs i 0) t (t % 10) (t / 10) d nanos carry (10 ^ (length cs - (i + 1))) (10 ^ length (drop (i + 1) fs)) (decimal (drop (i + 1) fs)) (10 ^ (length cs - length fs)) put split refl inv join
    ∙ ap (λ z. V0 + nanos * z * 10 ^ (length cs - length fs)) (sym digits)

digit_bound : (b : ℕ) → is_ascii_digit b ≡ true → b - 48 ≤ 9
digit_bound b h = grind (arith, nat_tests)

-- what the loop over a fraction keeps
pub add_kept : (cs fs : List ℕ) (left carry nanos V0 a b : ℕ) → 0 < left → left ≤ length fs → length fs ≤ length cs → nanos ≤ 3_600_000_000_000 → carry ≤ 4_000_000_000_000 → AreColumns cs → AreDigits fs → a ≡ get_or cs (left - 1) 0 → b ≡ get_or fs (left - 1) 0 - 48
    → column_value cs + carry * 10 ^ (length cs - left) ≡ V0 + nanos * decimal (drop left fs) * 10 ^ (length cs - length fs)
    → (left - 1 ≤ length fs) × AreColumns (set cs (left - 1) ((a + b * nanos + carry) % 10)) × ((a + b * nanos + carry) / 10 ≤ 4_000_000_000_000)
    × (column_value (set cs (left - 1) ((a + b * nanos + carry) % 10)) + (a + b * nanos + carry) / 10 * 10 ^ (length (set cs (left - 1) ((a + b * nanos + carry) % 10)) - (left - 1)) ≡ V0 + nanos * decimal (drop (left - 1) fs) * 10 ^ (length (set cs (left - 1) ((a + b * nanos + carry) % 10)) - length fs))
add_kept cs fs left carry nanos V0 a b pos within room small low columns digits ea eb inv =
    let i = left - 1 in
    let here : i < length fs = omega arith in
    let next : left ≡ i + 1 = omega arith in
    let column : get_or cs i 0 < 10 = columns i 0 (omega arith) in
    let digit : get_or fs i 0 - 48 ≤ 9 = digit_bound (get_or fs i 0) (AllPass-from_list_all is_ascii_digit fs digits i 0 here) in
    let product : b * nanos ≤ 9 * 3_600_000_000_000 = mul-le-mul (subst (λ z. z ≤ 9) (sym eb) digit) small in
    let t = a + b * nanos + carry in
    let total : t ≤ 9 + 9 * 3_600_000_000_000 + 4_000_000_000_000 = omega arith in
    let same : length (set cs i (t % 10)) ≡ length cs = length-set cs i (t % 10) in
    let before : column_value cs + carry * 10 ^ (length cs - (i + 1)) ≡ V0 + nanos * decimal (drop (i + 1) fs) * 10 ^ (length cs - length fs) =
    subst (λ k. column_value cs + carry * 10 ^ (length cs - k) ≡ V0 + nanos * decimal (drop k fs) * 10 ^ (length cs - length fs)) next inv in
    let after = add_step cs fs i b nanos carry V0 here room eb before in
    let named : column_value (set cs i (t % 10)) + t / 10 * 10 ^ (length cs - i) ≡ V0 + nanos * decimal (drop i fs) * 10 ^ (length cs - length fs) =
    subst (λ z. column_value (set cs i ((z + b * nanos + carry) % 10)) + (z + b * nanos + carry) / 10 * 10 ^ (length cs - i) ≡ V0 + nanos * decimal (drop i fs) * 10 ^ (length cs - length fs)) (sym ea) after in (
      omega arith,
      All-set (λ c. c < 10) cs i (t % 10) (mod_below t 10 (omega arith)) columns,
      omega (arith, div-add-mod' t 10),
      subst (λ n. column_value (set cs i (t % 10)) + t / 10 * 10 ^ (n - i) ≡ V0 + nanos * decimal (drop i fs) * 10 ^ (n - length fs)) (sym same) named,
    )

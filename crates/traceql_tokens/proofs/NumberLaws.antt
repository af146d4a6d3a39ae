-- The walk over a number finds just what the definition says.
use Rattle.std.proofs.Common.{◌≡◌, ℕ, zero, suc, ◌+◌, ◌-◌, ◌*◌, ◌/◌, ◌%◌, ◌^◌, ◌<◌, ◌≤◌, Bool, true, false, ◌&&◌, cond, eqb, ltb, nat_le, nat_lt, List, [], ◌∷◌, ◌++◌, length, get_or, drop, Option, None, Some, flat_map, unwrap_or, refl, ap, ap₂, sym, ◌∙◌, subst, arith, eqb-true, append_assoc, length-append, div-add-mod', ltb-true}
use Rattle.std.specs.List.{prefix_len, list_all, AllByRecursion}
use Rattle.std.specs.Char.{is_ascii_digit}
use Rattle.std.proofs.lemmas.Bool.{eqb-false}
use Rattle.std.proofs.lemmas.Bool.Decides.{nat_tests}
use Rattle.std.proofs.lemmas.Nat.{div_below, mod-mul-add}
use Rattle.std.proofs.lemmas.List.{get_or_append_left}
use Rattle.std.proofs.lemmas.List.Sums.{AllPass-from_list_all}
use Rattle.traceql_tokens.specs.Bytes.{AreDigits, decimal}
use Rattle.traceql_tokens.specs.Fixed.{unit_text}
use Rattle.traceql_tokens.specs.Numbers.{LIMIT, IsDigitRun, Part, IsPart, part_text, fraction_text, places, scaled, IsDuration, IsBareDecimal}
use Rattle.traceql_tokens.specs.NumberWalk.{whole_at, after_whole, after_fraction, fraction_at, part_at, part_len, parts_from, parts_within, parts, number_kind, duration_kind, duration_of, duration_at, plain_at, plain_of, number_at}
use Rattle.traceql_tokens.specs.Tokens.{IsTokenOf}
use Rattle.traceql_tokens.specs.declared.fixed.Word.{Word}
use Rattle.traceql_tokens.specs.declared.kinds.Class.TheVariants as class
use Rattle.traceql_tokens.specs.declared.kinds.Fault.TheVariants as fault
use Rattle.traceql_tokens.specs.declared.kinds.TokenKind.{TokenKind}
use Rattle.traceql_tokens.specs.declared.kinds.TokenKind.TheVariants as token
use Rattle.traceql_tokens.specs.declared.units.TimeUnit.{TimeUnit}
use Rattle.traceql_tokens.specs.declared.units.TimeUnit.TheVariants as unit
use Rattle.traceql_tokens.proofs.NumberSteps.{whole_len, digits_pass}
use Rattle.traceql_tokens.proofs.Parts.{whole_front, whole_some, fraction_front, fraction_digits, part_sound, part_some}
use Rattle.traceql_tokens.proofs.Prefixes.{both}
use Rattle.traceql_tokens.proofs.SumSteps.{power_some}
use Rattle.traceql_tokens.proofs.Ends.{End, behind, Found}

-- a byte that is a character by itself
abbrev pub is_low : ℕ → Bool
is_low b = ltb b 128

pub all_append : (p : ℕ → Bool) (xs ys : List ℕ) → list_all p xs ≡ true → list_all p ys ≡ true → list_all p (xs ++ ys) ≡ true
all_append p [] ys h k = k
all_append p (x ∷ xs) ys h k =
    let parts = both (p x) (list_all p xs) h in
    ap₂ (λ a b. a && b) parts.0 (all_append p xs ys parts.1 k)

-- a word of such bytes ends where the text can be cut
pub low_end : (bs word rest : List ℕ) → bs ≡ word ++ rest → list_all is_low word ≡ true → 0 < length word → End bs (length word)
low_end bs word rest e low some =
    let m = length word - 1 in
    let here : m < length word = omega arith in
    let byte : get_or bs m 0 ≡ get_or word m 0 = ap (λ t. get_or t m 0) e ∙ get_or_append_left word rest 0 m here in
    let small : get_or word m 0 < 128 = ltb-true (get_or word m 0) 128 (AllPass-from_list_all is_low word low m 0 here) in
    behind m (omega arith) (omega (arith, ap length e, length-append word rest)) (omega arith)

digit_low : (b : ℕ) → is_ascii_digit b ≡ true → is_low b ≡ true
digit_low b h = grind (arith, nat_tests)

pub digits_low : (ds : List ℕ) → AreDigits ds → list_all is_low ds ≡ true
digits_low [] h = refl
digits_low (d ∷ ds) h =
    let parts = both (is_ascii_digit d) (list_all is_ascii_digit ds) h in
    ap₂ (λ a b. a && b) (digit_low d parts.0) (digits_low ds parts.1)

unit_low : (u : TimeUnit) → list_all is_low (unit_text u) ≡ true
unit_low unit.Nanos = refl
unit_low unit.Micros = refl
unit_low unit.Millis = refl
unit_low unit.Seconds = refl
unit_low unit.Minutes = refl
unit_low unit.Hours = refl

fraction_low : (f : List ℕ) → AreDigits f → list_all is_low (fraction_text f) ≡ true
fraction_low [] h = refl
fraction_low (d ∷ ds) h = digits_low (d ∷ ds) h

part_low : (p : Part) → IsPart p → list_all is_low (part_text p) ≡ true
part_low p h =
    all_append is_low p.whole (fraction_text p.fraction ++ unit_text p.unit) (digits_low p.whole h.0.0) (all_append is_low (fraction_text p.fraction) (unit_text p.unit) (fraction_low p.fraction h.1) (unit_low p.unit))

parts_low : (ps : List Part) → AllByRecursion IsPart ps → list_all is_low (flat_map part_text ps) ≡ true
parts_low [] h = refl
parts_low (p ∷ ps) h = all_append is_low (part_text p) (flat_map part_text ps) (part_low p h.0) (parts_low ps h.1)

-- the parts that are read stand there, one after another
record Row (bs : List ℕ) (ps : List Part) : Type 0 where
  pub rest : List ℕ
  pub each : AllByRecursion IsPart ps
  pub parted : bs ≡ flat_map part_text ps ++ rest

row_from : (n : ℕ) (bs : List ℕ) (o : Option Part) → part_at bs ≡ o → ((p : Part) → Row (drop (part_len p) bs) (parts_within n (drop (part_len p) bs))) → Row bs (parts_from (parts_within n) bs o)
row_from n bs None e ih = record { rest = bs; each = tt; parted = refl }
row_from n bs (Some p) e ih =
    let r = part_sound bs p e in
    let i = ih p in
    record {
      rest = i.rest;
      each = (r.is, i.each);
      parted = r.written ∙ ap (λ t. part_text p ++ t) i.parted ∙ sym (append_assoc (part_text p) (flat_map part_text (parts_within n (drop (part_len p) bs))) i.rest);
    }

row : (n : ℕ) (bs : List ℕ) → Row bs (parts_within n bs)
unfolding parts_within
row zero bs = record { rest = bs; each = tt; parted = refl }
row (suc n) bs = row_from n bs (part_at bs) refl (λ p. row n (drop (part_len p) bs))

-- the token of parts is the one that they are
abbrev kind_by : ℕ → ℕ → Bool → Bool → TokenKind
kind_by k s b c = cond b (token.Broken class.Duration fault.NumberRange) (cond c (token.Duration (s / 10 ^ k)) (token.Broken class.Duration fault.FractionLiteral))

duration_by : (words : List Word) (at : ℕ) (w : List ℕ) (ps : List Part) (b c : Bool) → IsDuration w ps → nat_le (LIMIT * 10 ^ places ps) (scaled (places ps) ps) ≡ b → eqb (scaled (places ps) ps % 10 ^ places ps) 0 ≡ c → IsTokenOf words at w (kind_by (places ps) (scaled (places ps) ps) b c)
unfolding IsTokenOf
duration_by words at w ps true c d eb ec = (ps, d, grind (arith, nat_tests))
duration_by words at w ps false true d eb ec =
    let k = places ps in
    let s = scaled k ps in
    let small : s < LIMIT * 10 ^ k = grind (arith, nat_tests) in
    let zero_rest : s % 10 ^ k ≡ 0 = eqb-true (s % 10 ^ k) 0 ec in
    let split = div-add-mod' s (10 ^ k) in
    (ps, d, omega arith, div_below s (10 ^ k) LIMIT (power_some k) small)
duration_by words at w ps false false d eb ec =
    let k = places ps in
    let s = scaled k ps in
    let small : s < LIMIT * 10 ^ k = grind (arith, nat_tests) in (
      ps,
      d,
      (λ (many : LIMIT * 10 ^ k ≤ s). absurd (omega arith)),
      (λ (n : ℕ) (e : s ≡ n * 10 ^ k).
          let z : n * 10 ^ k + 0 ≡ s = omega arith in
          eqb-false (s % 10 ^ k) 0 ec (ap (λ x. x % 10 ^ k) (sym z) ∙ mod-mul-add n (10 ^ k) 0 (power_some k))),
    )

duration_is : (words : List Word) (at : ℕ) (w : List ℕ) (ps : List Part) → IsDuration w ps → IsTokenOf words at w (duration_kind (places ps) (scaled (places ps) ps))
unfolding duration_kind
duration_is words at w ps d = duration_by words at w ps (nat_le (LIMIT * 10 ^ places ps) (scaled (places ps) ps)) (eqb (scaled (places ps) ps % 10 ^ places ps) 0) d refl refl

abbrev pub Numbered : List ℕ → TokenKind × ℕ → Type 0
Numbered bs r = Found bs r.1 (λ w. (words : List Word) (at : ℕ) → IsTokenOf words at w r.0)

text_some : (p : Part) (ps : List Part) → 0 < length (flat_map part_text (p ∷ ps))
text_some p ps = omega (arith, length-append (part_text p) (flat_map part_text ps), part_some p)

durations_found : (bs : List ℕ) (p : Part) (ps : List Part) → Row bs (p ∷ ps) → Numbered bs (duration_kind (places (p ∷ ps)) (scaled (places (p ∷ ps)) (p ∷ ps)), length (flat_map part_text (p ∷ ps)))
durations_found bs p ps r = record {
  word = flat_map part_text (p ∷ ps);
  rest = r.rest;
  parted = r.parted;
  size = refl;
  is = λ words at. duration_is words at (flat_map part_text (p ∷ ps)) (p ∷ ps) (record { each = r.each; some = λ z. absurd (cc); written = refl });
  end = low_end bs (flat_map part_text (p ∷ ps)) r.rest r.parted (parts_low (p ∷ ps) r.each) (text_some p ps);
  some = text_some p ps;
}

number_by : (words : List Word) (at : ℕ) (w : List ℕ) (b : Bool) → IsDigitRun w → nat_lt (decimal w) LIMIT ≡ b → IsTokenOf words at w (cond b (token.Number (decimal w)) (token.Broken class.Number fault.NumberRange))
unfolding IsTokenOf
number_by words at w true d e = (d, refl, grind (arith, nat_tests))
number_by words at w false d e = (d, grind (arith, nat_tests))

number_is : (words : List Word) (at : ℕ) (w : List ℕ) → IsDigitRun w → IsTokenOf words at w (number_kind (decimal w))
unfolding number_kind
number_is words at w d = number_by words at w (nat_lt (decimal w) LIMIT) d refl

bare_is : (words : List Word) (at : ℕ) (w : List ℕ) → IsBareDecimal w → IsTokenOf words at w (token.Broken class.Number fault.FractionLiteral)
unfolding IsTokenOf
bare_is words at w h = h

list_some : (xs : List ℕ) → (xs ≡ [] → ⊥) → 0 < length xs
list_some [] h = absurd (h refl)
list_some (x ∷ xs) h = omega arith

plain_found : (bs f : List ℕ) → fraction_at (after_whole bs) ≡ f → (whole_at bs ≡ [] → ⊥) → Numbered bs (plain_of (whole_at bs) f, prefix_len is_ascii_digit bs + length (fraction_text f))
plain_found bs [] e some =
    let n : prefix_len is_ascii_digit bs + 0 ≡ length (whole_at bs) = omega (arith, whole_len bs) in
    record {
      word = whole_at bs;
      rest = after_whole bs;
      parted = whole_front bs;
      size = n;
      is = λ words at. number_is words at (whole_at bs) (digits_pass bs, some);
      end = subst (End bs) (sym n) (low_end bs (whole_at bs) (after_whole bs) (whole_front bs) (digits_low (whole_at bs) (digits_pass bs)) (list_some (whole_at bs) some));
      some = omega (arith, n, list_some (whole_at bs) some);
    }
plain_found bs (d ∷ ds) e some =
    let w = whole_at bs in
    let text : bs ≡ w ++ ((46 ∷ d ∷ ds) ++ after_fraction (after_whole bs)) =
    whole_front bs ∙ ap (λ t. w ++ t) (fraction_front (after_whole bs) ∙ ap (λ t. fraction_text t ++ after_fraction (after_whole bs)) e) in
    let parted : bs ≡ (w ++ 46 ∷ d ∷ ds) ++ after_fraction (after_whole bs) = text ∙ sym (append_assoc w (46 ∷ d ∷ ds) (after_fraction (after_whole bs))) in
    let digits : AreDigits (d ∷ ds) = subst AreDigits e (fraction_digits (after_whole bs)) in
    let n : prefix_len is_ascii_digit bs + suc (suc (length ds)) ≡ length (w ++ 46 ∷ d ∷ ds) = omega (arith, whole_len bs, length-append w (46 ∷ d ∷ ds)) in
    record {
      word = w ++ 46 ∷ d ∷ ds;
      rest = after_fraction (after_whole bs);
      parted = parted;
      size = n;
      is = λ words at. bare_is words at (w ++ 46 ∷ d ∷ ds) (w, d ∷ ds, (digits_pass bs, some), (digits, λ z. absurd (cc)), refl);
      end = subst (End bs) (sym n) (low_end bs (w ++ 46 ∷ d ∷ ds) (after_fraction (after_whole bs)) parted (all_append is_low w (46 ∷ d ∷ ds) (digits_low w (digits_pass bs)) (digits_low (d ∷ ds) digits)) (omega arith));
      some = omega arith;
    }

number_from : (bs : List ℕ) (ps : List Part) → Row bs ps → (whole_at bs ≡ [] → ⊥) → Numbered bs (unwrap_or (duration_of ps) (plain_at bs))
unfolding duration_of plain_at
number_from bs [] r some = plain_found bs (fraction_at (after_whole bs)) refl some
number_from bs (p ∷ ps) r some = durations_found bs p ps r

-- what is found is a number, a bare decimal or a duration there
pub number_sound : (bs : List ℕ) → eqb (prefix_len is_ascii_digit bs) 0 ≡ false → Numbered bs (number_at bs)
unfolding number_at duration_at
number_sound bs h = number_from bs (parts bs) (row (length bs) bs) (whole_some bs h)

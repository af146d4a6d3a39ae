-- What digits, fractions and parts are, by what the lexer found.
use Rattle.std.proofs.Common.{◌≡◌, ℕ, zero, suc, ◌+◌, ◌<◌, ◌≤◌, Bool, true, false, ◌&&◌, cond, eqb, List, [], ◌∷◌, length, get_or, drop, take, Option, None, Some, option_map, nat_eq, refl, ap, ap₂, sym, ◌∙◌, arith, ne_eqb, eq-eqb, length-take, length-drop}
use Rattle.std.specs.List.{starts_with, prefix_len, list_all}
use Rattle.std.specs.Char.{is_ascii_digit}
use Rattle.std.proofs.lemmas.List.{take_rest}
use Rattle.std.proofs.lemmas.List.Sums.{prefix_len-le-length}
use Rattle.traceql_tokens.specs.Bytes.{AreDigits}
use Rattle.traceql_tokens.specs.Fixed.{unit_text}
use Rattle.traceql_tokens.specs.Numbers.{Part, fraction_text}
use Rattle.traceql_tokens.specs.NumberWalk.{unit_at, fraction_at, whole_at, after_whole, after_fraction, part_at}
use Rattle.traceql_tokens.specs.declared.tables.TheConstants.{UNITS}
use Rattle.traceql_tokens.specs.declared.units.TimeUnit.{TimeUnit}
use Rattle.traceql_tokens.proofs.Prefixes.{find_passes, starts_fits}

one_more : (n : ℕ) → 1 + n ≡ suc n
one_more n = omega arith

run_step : (p : ℕ → Bool) (b : ℕ) (bs : List ℕ) (t : Bool) → p b ≡ t → list_all p (take (prefix_len p bs) bs) ≡ true → list_all p (take (cond t (1 + prefix_len p bs) 0) (b ∷ bs)) ≡ true
run_step p b bs false e h = refl
run_step p b bs true e h = ap (λ n. list_all p (take n (b ∷ bs))) (one_more _) ∙ ap₂ (λ x y. x && y) e h

-- each byte of a run passes
pub run_passes : (p : ℕ → Bool) (bs : List ℕ) → list_all p (take (prefix_len p bs) bs) ≡ true
run_passes p [] = refl
run_passes p (b ∷ bs) = run_step p b bs (p b) refl (run_passes p bs)

pub digits_fit : (bs : List ℕ) → prefix_len is_ascii_digit bs ≤ length bs
digits_fit bs = prefix_len-le-length is_ascii_digit bs

pub digits_pass : (bs : List ℕ) → AreDigits (whole_at bs)
digits_pass bs = run_passes is_ascii_digit bs

pub ruleset digit_facts = (digits_fit, digits_pass)

pub fraction_dot : (bs : List ℕ) → get_or bs 0 0 ≡ 46 → fraction_at bs ≡ whole_at (drop 1 bs)
unfolding fraction_at
fraction_dot bs e = ap (λ b. cond (eqb b 46) (whole_at (drop 1 bs)) []) e

pub fraction_none : (bs : List ℕ) → (0 < length bs → get_or bs 0 0 ≡ 46 → ⊥) → fraction_at bs ≡ []
unfolding fraction_at
fraction_none [] h = refl
fraction_none (b ∷ bs) h = ap (λ x. cond x (whole_at bs) []) (ne_eqb b 46 (h (omega arith)))

pub after_none : (bs : List ℕ) → fraction_at bs ≡ [] → after_fraction bs ≡ bs
after_none bs h = ap (λ f. drop (length (fraction_text f)) bs) h

text_len : (f : List ℕ) → (length f ≡ 0 → ⊥) → length (fraction_text f) ≡ suc (length f)
text_len [] h = absurd (h refl)
text_len (d ∷ ds) h = refl

drop_nil : (k : ℕ) → drop {A = ℕ} k [] ≡ []
drop_nil zero = refl
drop_nil (suc k) = refl

drop_suc : (n : ℕ) (bs : List ℕ) → drop (suc n) bs ≡ drop n (drop 1 bs)
drop_suc n [] = sym (drop_nil n)
drop_suc n (b ∷ bs) = refl

pub whole_len : (bs : List ℕ) → length (whole_at bs) ≡ prefix_len is_ascii_digit bs
whole_len bs = omega (arith, length-take (prefix_len is_ascii_digit bs) bs, digits_fit bs)

pub after_dot : (bs : List ℕ) → get_or bs 0 0 ≡ 46 → (length (whole_at (drop 1 bs)) ≡ 0 → ⊥) → after_fraction bs ≡ after_whole (drop 1 bs)
after_dot bs e h =
    ap (λ f. drop (length (fraction_text f)) bs) (fraction_dot bs e)
    ∙ ap (λ n. drop n bs) (text_len (whole_at (drop 1 bs)) h ∙ ap suc (whole_len (drop 1 bs)))
    ∙ drop_suc (prefix_len is_ascii_digit (drop 1 bs)) bs

pub ruleset fraction_facts = (fraction_dot, fraction_none, after_none, after_dot, digits_pass, take_rest)

whole_none : (bs : List ℕ) → length (whole_at bs) ≡ 0 → eqb (prefix_len is_ascii_digit bs) 0 ≡ true
whole_none bs h = eq-eqb _ 0 (sym (whole_len bs) ∙ h)

abbrev pub of_unit : List ℕ → TimeUnit → Part
of_unit bs u = record { whole = whole_at bs; fraction = fraction_at (after_whole bs); unit = u }

pub part_none : (bs : List ℕ) → length (whole_at bs) ≡ 0 → part_at bs ≡ None
unfolding part_at
part_none bs h = ap (λ b. cond b None (option_map (of_unit bs) (unit_at (after_fraction (after_whole bs))))) (whole_none bs h)

pub part_unitless : (bs : List ℕ) → unit_at (after_fraction (after_whole bs)) ≡ None → part_at bs ≡ None
unfolding part_at
part_unitless bs h = ap (λ o. cond (eqb (prefix_len is_ascii_digit bs) 0) None (option_map (of_unit bs) o)) h ∙ same (eqb (prefix_len is_ascii_digit bs) 0)
  where
    same : (b : Bool) → cond {A = Option Part} b None None ≡ None
    same true = refl
    same false = refl

pub part_some : (bs : List ℕ) (u : TimeUnit) → (length (whole_at bs) ≡ 0 → ⊥) → unit_at (after_fraction (after_whole bs)) ≡ Some u → part_at bs ≡ Some (record { whole = whole_at bs; fraction = fraction_at (after_whole bs); unit = u })
unfolding part_at
part_some bs u h e =
    ap (λ b. cond b None (option_map (of_unit bs) (unit_at (after_fraction (after_whole bs))))) (ne_eqb (prefix_len is_ascii_digit bs) 0 (λ z. h (whole_len bs ∙ z)))
    ∙ ap (option_map (of_unit bs)) e

-- a unit stands within what follows the digits
pub unit_fits : (bs : List ℕ) (u : TimeUnit) → unit_at bs ≡ Some u → length (unit_text u) ≤ length bs
unit_fits bs u h = starts_fits bs (unit_text u) (find_passes (λ x. starts_with nat_eq bs (unit_text x)) u UNITS h)

pub whole_split : (bs : List ℕ) → length (whole_at bs) + length (after_whole bs) ≡ length bs
whole_split bs = omega (arith, length-take (prefix_len is_ascii_digit bs) bs, length-drop (prefix_len is_ascii_digit bs) bs, digits_fit bs)

pub ruleset part_facts = (part_none, part_unitless, part_some)

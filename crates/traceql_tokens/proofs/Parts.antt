-- The parts of a duration: that what is read is written there, and one part after another.
use Rattle.std.proofs.Common.{◌≡◌, ℕ, zero, suc, ◌+◌, ◌<◌, ◌≤◌, Bool, true, false, cond, eqb, List, [], ◌∷◌, ◌++◌, length, get_or, drop, Option, None, Some, option_map, flat_map, nat_eq, refl, ap, ap₂, sym, ◌∙◌, subst, arith, eqb-true, eq-eqb, append_assoc, append-nil, length-append, take-append-drop, drop-drop}
use Rattle.std.specs.List.{starts_with, prefix_len}
use Rattle.std.specs.Char.{is_ascii_digit}
use Rattle.std.proofs.lemmas.List.{nil_from_length}
use Rattle.std.proofs.lemmas.List.Prefix.{front_rest}
use Rattle.traceql_tokens.specs.Bytes.{AreDigits}
use Rattle.traceql_tokens.specs.Fixed.{unit_text}
use Rattle.traceql_tokens.specs.Numbers.{Part, IsPart, part_text, fraction_text, places, scaled}
use Rattle.traceql_tokens.specs.NumberWalk.{unit_at, fraction_at, whole_at, after_whole, after_fraction, part_at, part_len, parts_from, parts_within, parts, duration_kind, duration_of, duration_at}
use Rattle.traceql_tokens.specs.Sums.{Holds}
use Rattle.traceql_tokens.specs.declared.numbers.Sum.{Sum}
use Rattle.traceql_tokens.specs.declared.kinds.TokenKind.{TokenKind}
use Rattle.traceql_tokens.specs.declared.tables.TheConstants.{UNITS}
use Rattle.traceql_tokens.specs.declared.units.TimeUnit.{TimeUnit}
use Rattle.traceql_tokens.specs.declared.units.TimeUnit.TheVariants as unit
use Rattle.traceql_tokens.proofs.Prefixes.{find_passes, starts_true}
use Rattle.traceql_tokens.proofs.NumberSteps.{of_unit, whole_len, digits_pass}

pub whole_front : (bs : List ℕ) → bs ≡ whole_at bs ++ after_whole bs
whole_front bs = sym (take-append-drop (prefix_len is_ascii_digit bs) bs)

-- a front stays one, with the rest as what is dropped
pub front_is : (bs p rest : List ℕ) → bs ≡ p ++ rest → bs ≡ p ++ drop (length p) bs
front_is bs p rest e = e ∙ ap (λ t. p ++ t) (sym (front_rest bs p rest e))

dot_front : (b : ℕ) (tl f : List ℕ) → b ≡ 46 → tl ≡ f ++ drop (length f) tl → (b ∷ tl) ≡ fraction_text f ++ drop (length (fraction_text f)) (b ∷ tl)
dot_front b tl [] e h = refl
dot_front b tl (d ∷ ds) e h = ap₂ (λ x t. x ∷ t) e h

fraction_case : (b : ℕ) (tl : List ℕ) (t : Bool) → eqb b 46 ≡ t → (b ∷ tl) ≡ fraction_text (cond t (whole_at tl) []) ++ drop (length (fraction_text (cond t (whole_at tl) []))) (b ∷ tl)
fraction_case b tl false e = refl
fraction_case b tl true e = dot_front b tl (whole_at tl) (eqb-true b 46 e) (front_is tl (whole_at tl) (after_whole tl) (whole_front tl))

pub fraction_front : (bs : List ℕ) → bs ≡ fraction_text (fraction_at bs) ++ after_fraction bs
unfolding fraction_at
fraction_front [] = refl
fraction_front (b ∷ tl) = fraction_case b tl (eqb b 46) refl

pub fraction_digits : (bs : List ℕ) → AreDigits (fraction_at bs)
unfolding fraction_at
fraction_digits bs = by_test (eqb (get_or bs 0 0) 46)
  where
    by_test : (t : Bool) → AreDigits (cond t (whole_at (drop 1 bs)) [])
    by_test true = digits_pass (drop 1 bs)
    by_test false = refl

pub unit_front : (bs : List ℕ) (u : TimeUnit) → unit_at bs ≡ Some u → bs ≡ unit_text u ++ drop (length (unit_text u)) bs
unit_front bs u h = starts_true bs (unit_text u) (find_passes (λ x. starts_with nat_eq bs (unit_text x)) u UNITS h)

pub whole_some : (bs : List ℕ) → eqb (prefix_len is_ascii_digit bs) 0 ≡ false → whole_at bs ≡ [] → ⊥
whole_some bs h e =
    let z : prefix_len is_ascii_digit bs ≡ 0 = sym (whole_len bs) ∙ ap length e in
    let t : eqb (prefix_len is_ascii_digit bs) 0 ≡ true = eq-eqb (prefix_len is_ascii_digit bs) 0 z in
    cc

of_unit_text : (bs : List ℕ) (u : TimeUnit) → unit_at (after_fraction (after_whole bs)) ≡ Some u → bs ≡ part_text (of_unit bs u) ++ drop (length (unit_text u)) (after_fraction (after_whole bs))
of_unit_text bs u h =
    let w = whole_at bs in
    let f = fraction_text (fraction_at (after_whole bs)) in
    let t = unit_text u in
    let rest = drop (length t) (after_fraction (after_whole bs)) in
    whole_front bs ∙ ap (λ z. w ++ z) (fraction_front (after_whole bs) ∙ ap (λ z. f ++ z) (unit_front (after_fraction (after_whole bs)) u h))
    ∙ ap (λ z. w ++ z) (sym (append_assoc f t rest)) ∙ sym (append_assoc w (f ++ t) rest)

-- What is read as a part is one, and stands there.
pub record Reads (bs : List ℕ) (p : Part) : Type 0 where
  pub is : IsPart p
  pub written : bs ≡ part_text p ++ drop (part_len p) bs

read_unit : (bs : List ℕ) (o : Option TimeUnit) (p : Part) → unit_at (after_fraction (after_whole bs)) ≡ o → eqb (prefix_len is_ascii_digit bs) 0 ≡ false → option_map (of_unit bs) o ≡ Some p → Reads bs p
read_unit bs None p e h q = absurd (cc)
read_unit bs (Some u) p e h q =
    let same : of_unit bs u ≡ p = cc in
    let text = of_unit_text bs u e in
    subst (λ z. Reads bs z) same (record {
      is = ((digits_pass bs, whole_some bs h), fraction_digits (after_whole bs));
      written = front_is bs (part_text (of_unit bs u)) (drop (length (unit_text u)) (after_fraction (after_whole bs))) text;
    })

read_test : (bs : List ℕ) (t : Bool) (p : Part) → eqb (prefix_len is_ascii_digit bs) 0 ≡ t → cond t None (option_map (of_unit bs) (unit_at (after_fraction (after_whole bs)))) ≡ Some p → Reads bs p
read_test bs true p e q = absurd (cc)
read_test bs false p e q = read_unit bs (unit_at (after_fraction (after_whole bs))) p refl e q

pub part_sound : (bs : List ℕ) (p : Part) → part_at bs ≡ Some p → Reads bs p
unfolding part_at
part_sound bs p h = read_test bs (eqb (prefix_len is_ascii_digit bs) 0) p refl h

pub unit_some : (u : TimeUnit) → 0 < length (unit_text u)
unit_some unit.Nanos = omega arith
unit_some unit.Micros = omega arith
unit_some unit.Millis = omega arith
unit_some unit.Seconds = omega arith
unit_some unit.Minutes = omega arith
unit_some unit.Hours = omega arith

-- a part has a byte
pub part_some : (p : Part) → 0 < part_len p
part_some p =
    omega (arith, length-append p.whole (fraction_text p.fraction ++ unit_text p.unit), length-append (fraction_text p.fraction) (unit_text p.unit), unit_some p.unit)

pub part_fits : (bs : List ℕ) (p : Part) → part_at bs ≡ Some p → length (drop (part_len p) bs) + part_len p ≡ length bs
part_fits bs p h =
    omega (arith, ap length (part_sound bs p h).written, length-append (part_text p) (drop (part_len p) bs))

none_in_nil : part_at [] ≡ None
unfolding part_at
none_in_nil = refl

fuel_from : (m n : ℕ) (bs : List ℕ) (o : Option Part) → part_at bs ≡ o → ((p : Part) → part_at bs ≡ Some p → parts_within m (drop (part_len p) bs) ≡ parts_within n (drop (part_len p) bs)) → parts_from (parts_within m) bs o ≡ parts_from (parts_within n) bs o
fuel_from m n bs None e ih = refl
fuel_from m n bs (Some p) e ih = ap (λ t. p ∷ t) (ih p e)

nil_parts : (n : ℕ) (bs : List ℕ) → length bs ≡ 0 → parts_within n bs ≡ []
unfolding parts_within
nil_parts zero bs h = refl
nil_parts (suc n) bs h = let e : bs ≡ [] = nil_from_length bs h in ap (λ t. parts_from (parts_within n) bs (part_at t)) e ∙ ap (parts_from (parts_within n) bs) none_in_nil

-- more steps than bytes change nothing
fuel : (m n : ℕ) (bs : List ℕ) → length bs ≤ m → length bs ≤ n → parts_within m bs ≡ parts_within n bs
unfolding parts_within
fuel zero n bs h k = sym (nil_parts n bs (omega arith))
fuel (suc m) zero bs h k = nil_parts (suc m) bs (omega arith)
fuel (suc m) (suc n) bs h k =
    fuel_from m n bs (part_at bs) refl (λ p e. fuel m n (drop (part_len p) bs) (omega (arith, part_fits bs p e, part_some p)) (omega (arith, part_fits bs p e, part_some p)))

pub parts_none : (bs : List ℕ) → part_at bs ≡ None → parts bs ≡ []
unfolding parts_within
parts_none [] h = refl
parts_none (b ∷ bs) h = ap (parts_from (parts_within (length bs)) (b ∷ bs)) h

pub parts_more : (bs : List ℕ) (p : Part) → part_at bs ≡ Some p → parts bs ≡ p ∷ parts (drop (part_len p) bs)
unfolding parts_within
parts_more [] p h = let z : part_at [] ≡ None = none_in_nil in absurd (cc)
parts_more (b ∷ bs) p h =
    ap (parts_from (parts_within (length bs)) (b ∷ bs)) h
    ∙ ap (λ t. p ∷ t) (fuel (length bs) (length (drop (part_len p) (b ∷ bs))) (drop (part_len p) (b ∷ bs)) (omega (arith, part_fits (b ∷ bs) p h, part_some p)) (omega arith))

texts_append : (ps : List Part) (p : Part) → length (flat_map part_text (ps ++ p ∷ [])) ≡ length (flat_map part_text ps) + part_len p
texts_append [] p = ap length (append-nil (part_text p)) ∙ (omega arith)
texts_append (q ∷ ps) p =
    omega (arith, length-append (part_text q) (flat_map part_text (ps ++ p ∷ [])), length-append (part_text q) (flat_map part_text ps), texts_append ps p)

-- the parts before a place are added up, and the others follow there
pub record Adds (s : Sum) (len : ℕ) (bytes : List ℕ) : Type 0 where
  pub done : List Part
  pub held : Holds s done
  pub rest : done ++ parts (drop len bytes) ≡ parts bytes
  pub size : len ≡ length (flat_map part_text done)

pub adds_none : (s : Sum) (bytes : List ℕ) → Holds s [] → Adds s 0 bytes
adds_none s bytes held = record { done = []; held = held; rest = refl; size = refl }

pub adds_more : (s t : Sum) (len n : ℕ) (bytes : List ℕ) (p : Part) → Adds s len bytes → part_at (drop len bytes) ≡ Some p → n ≡ part_len p → ((ps : List Part) → Holds s ps → Holds t (ps ++ p ∷ [])) → Adds t (len + n) bytes
adds_more s t len n bytes p a e en add = record {
  done = a.done ++ p ∷ [];
  held = add a.done a.held;
  rest =
      append_assoc a.done (p ∷ []) (parts (drop (len + n) bytes))
      ∙ ap (λ k. a.done ++ p ∷ parts (drop (len + k) bytes)) en
      ∙ ap (λ t. a.done ++ p ∷ parts t) (sym (drop-drop (part_len p) len bytes))
      ∙ ap (λ t. a.done ++ t) (sym (parts_more (drop len bytes) p e))
      ∙ a.rest;
  size = ap₂ (λ x y. x + y) a.size en ∙ sym (texts_append a.done p);
}

all_done : (s : Sum) (len : ℕ) (bytes : List ℕ) (a : Adds s len bytes) → part_at (drop len bytes) ≡ None → a.done ≡ parts bytes
all_done s len bytes a e = sym (append-nil a.done) ∙ ap (λ t. a.done ++ t) (sym (parts_none (drop len bytes) e)) ∙ a.rest

pub no_text : (ps : List Part) → length (flat_map part_text ps) ≡ 0 → ps ≡ []
no_text [] h = refl
no_text (p ∷ ps) h = absurd (omega (arith, length-append (part_text p) (flat_map part_text ps), part_some p))

pub adds_nothing : (s : Sum) (len : ℕ) (bytes : List ℕ) → Adds s len bytes → part_at (drop len bytes) ≡ None → len ≡ 0 → duration_at bytes ≡ None
unfolding duration_at duration_of
adds_nothing s len bytes a e z =
    ap duration_of (sym (all_done s len bytes a e) ∙ no_text a.done (sym a.size ∙ z))

some_duration : (ps : List Part) → (length (flat_map part_text ps) ≡ 0 → ⊥) → duration_of ps ≡ Some (duration_kind (places ps) (scaled (places ps) ps), length (flat_map part_text ps))
unfolding duration_of
some_duration [] h = absurd (h refl)
some_duration (p ∷ ps) h = refl

pub adds_all : (s : Sum) (len : ℕ) (bytes : List ℕ) (kind : TokenKind) → Adds s len bytes → part_at (drop len bytes) ≡ None → (len ≡ 0 → ⊥) → ((ps : List Part) → Holds s ps → kind ≡ duration_kind (places ps) (scaled (places ps) ps)) → duration_at bytes ≡ Some (kind, len)
unfolding duration_at
adds_all s len bytes kind a e some is =
    ap duration_of (sym (all_done s len bytes a e)) ∙ some_duration a.done (λ z. some (a.size ∙ z)) ∙ ap₂ (λ x y. Some (x, y)) (sym (is a.done a.held)) (sym a.size)

-- The walk over a number goes at least as far as any number that stands there, and tells the one that goes as far.
use Rattle.std.proofs.Common.{◌≡◌, ℕ, suc, ◌+◌, ◌*◌, ◌/◌, ◌%◌, ◌^◌, ◌<◌, ◌≤◌, Bool, true, false, ◌&&◌, ◌⊎◌, inl, inr, cond, eqb, nat_le, List, [], ◌∷◌, ◌++◌, length, drop, take, Option, None, Some, option_map, flat_map, unwrap_or, refl, ap, ap₂, sym, ◌∙◌, subst, arith, eqb-true, ne_eqb, le-leb, append_assoc, append-nil, length-append, mul-le-mul, div-add-mod'}
use Rattle.std.specs.List.{prefix_len, list_all, AllByRecursion}
use Rattle.std.specs.Char.{is_ascii_digit}
use Rattle.std.proofs.lemmas.Bool.Decides.{nat_tests}
use Rattle.std.proofs.lemmas.Nat.{div-mul-add, mod-mul-add}
use Rattle.std.proofs.lemmas.List.{take_at, drop_at}
use Rattle.traceql_tokens.specs.Bytes.{AreDigits, decimal}
use Rattle.traceql_tokens.specs.Fixed.{unit_text}
use Rattle.traceql_tokens.specs.Numbers.{LIMIT, IsDigitRun, Part, IsPart, part_text, fraction_text, places, scaled, IsDuration, AreNanos, AreTooMany, IsBareDecimal}
use Rattle.traceql_tokens.specs.NumberWalk.{unit_at, whole_at, after_whole, after_fraction, fraction_at, part_at, part_len, parts, number_kind, duration_kind, duration_of, duration_at, plain_at, plain_of, number_at}
use Rattle.traceql_tokens.specs.declared.kinds.Class.TheVariants as class
use Rattle.traceql_tokens.specs.declared.kinds.Fault.TheVariants as fault
use Rattle.traceql_tokens.specs.declared.kinds.TokenKind.{TokenKind}
use Rattle.traceql_tokens.specs.declared.kinds.TokenKind.TheVariants as token
use Rattle.traceql_tokens.specs.declared.units.TimeUnit.{TimeUnit}
use Rattle.traceql_tokens.specs.declared.units.TimeUnit.TheVariants as unit
use Rattle.traceql_tokens.proofs.NumberSteps.{of_unit, whole_len, fraction_dot, part_some}
use Rattle.traceql_tokens.proofs.NumberCases.{below_limit, above_limit}
use Rattle.traceql_tokens.proofs.Parts.{parts_more, parts_none}
use Rattle.traceql_tokens.proofs.Parts.{no_text, unit_some}
use Rattle.traceql_tokens.proofs.Prefixes.{both}
use Rattle.traceql_tokens.proofs.SumSteps.{power_some}
use Rattle.traceql_tokens.proofs.StringReach.{prefix_append, Reaches}

-- no digit is first
abbrev pub Undigit : List ℕ → Type 0
Undigit bs = prefix_len is_ascii_digit bs ≡ 0

-- digits in front of something else are the digits that are read
pub whole_of : (ds rest : List ℕ) → AreDigits ds → Undigit rest → prefix_len is_ascii_digit (ds ++ rest) ≡ length ds
whole_of ds rest h u = let e = prefix_append is_ascii_digit ds rest h in omega arith

pub whole_text : (ds rest : List ℕ) → AreDigits ds → Undigit rest → whole_at (ds ++ rest) ≡ ds
whole_text ds rest h u = ap (λ n. take n (ds ++ rest)) (whole_of ds rest h u) ∙ take_at ds rest (length ds) refl

pub whole_after : (ds rest : List ℕ) → AreDigits ds → Undigit rest → after_whole (ds ++ rest) ≡ rest
whole_after ds rest h u = ap (λ n. drop n (ds ++ rest)) (whole_of ds rest h u) ∙ drop_at ds rest (length ds) refl

-- what a unit is written with is no digit and no dot
unit_undigit : (u : TimeUnit) (more : List ℕ) → Undigit (unit_text u ++ more)
unit_undigit unit.Nanos more = refl
unit_undigit unit.Micros more = refl
unit_undigit unit.Millis more = refl
unit_undigit unit.Seconds more = refl
unit_undigit unit.Minutes more = refl
unit_undigit unit.Hours more = refl

unit_undot : (u : TimeUnit) (more : List ℕ) → fraction_at (unit_text u ++ more) ≡ []
unfolding fraction_at
unit_undot unit.Nanos more = refl
unit_undot unit.Micros more = refl
unit_undot unit.Millis more = refl
unit_undot unit.Seconds more = refl
unit_undot unit.Minutes more = refl
unit_undot unit.Hours more = refl

-- a unit is read where it stands, but minutes before an `s` are milliseconds
minutes_next : (x : ℕ) (more : List ℕ) (b : Bool) → eqb 115 x ≡ b → (unit_at (109 ∷ x ∷ more) ≡ Some unit.Minutes) ⊎ ((x ≡ 115) × (unit_at (109 ∷ x ∷ more) ≡ Some unit.Millis))
minutes_next x more true e =
    let q : unit_at (109 ∷ x ∷ more) ≡ cond (eqb 115 x && true) (Some unit.Millis) (Some unit.Minutes) = refl in
    inr (sym (eqb-true 115 x e), q ∙ ap (λ b. cond (b && true) (Some unit.Millis) (Some unit.Minutes)) e)
minutes_next x more false e =
    let q : unit_at (109 ∷ x ∷ more) ≡ cond (eqb 115 x && true) (Some unit.Millis) (Some unit.Minutes) = refl in
    inl (q ∙ ap (λ b. cond (b && true) (Some unit.Millis) (Some unit.Minutes)) e)

unit_next : (u : TimeUnit) (more : List ℕ) → (unit_at (unit_text u ++ more) ≡ Some u) ⊎ ((v : TimeUnit) × (tl : List ℕ) × (more ≡ 115 ∷ tl) × (unit_at (unit_text u ++ more) ≡ Some v) × (length (unit_text v) ≡ length (unit_text u) + 1))
unit_next unit.Nanos more = inl refl
unit_next unit.Micros more = inl refl
unit_next unit.Millis more = inl refl
unit_next unit.Seconds more = inl refl
unit_next unit.Minutes [] = inl refl
unit_next unit.Minutes (x ∷ more) =
    elim (minutes_next x more (eqb 115 x) refl) [ inl e ↦ inl e | inr w ↦ inr (unit.Millis, more, ap (λ b. b ∷ more) w.0, w.1, refl) ]
unit_next unit.Hours more = inl refl

fraction_undigit : (f : List ℕ) (u : TimeUnit) (more : List ℕ) → Undigit (fraction_text f ++ (unit_text u ++ more))
fraction_undigit [] u more = unit_undigit u more
fraction_undigit (d ∷ ds) u more = refl

fraction_read : (f : List ℕ) (u : TimeUnit) (more : List ℕ) → AreDigits f → fraction_at (fraction_text f ++ (unit_text u ++ more)) ≡ f
fraction_read [] u more h = unit_undot u more
fraction_read (d ∷ ds) u more h = fraction_dot (46 ∷ ((d ∷ ds) ++ (unit_text u ++ more))) refl ∙ whole_text (d ∷ ds) (unit_text u ++ more) h (unit_undigit u more)

fraction_left : (f : List ℕ) (u : TimeUnit) (more : List ℕ) → AreDigits f → after_fraction (fraction_text f ++ (unit_text u ++ more)) ≡ unit_text u ++ more
fraction_left f u more h =
    ap (λ g. drop (length (fraction_text g)) (fraction_text f ++ (unit_text u ++ more))) (fraction_read f u more h) ∙ drop_at (fraction_text f) (unit_text u ++ more) (length (fraction_text f)) refl

part_spread : (p : Part) (more : List ℕ) → part_text p ++ more ≡ p.whole ++ (fraction_text p.fraction ++ (unit_text p.unit ++ more))
part_spread p more =
    append_assoc p.whole (fraction_text p.fraction ++ unit_text p.unit) more ∙ ap (λ t. p.whole ++ t) (append_assoc (fraction_text p.fraction) (unit_text p.unit) more)

list_none : (xs : List ℕ) → length xs ≡ 0 → xs ≡ []
list_none [] h = refl
list_none (x ∷ xs) h = absurd (omega arith)

part_with : (p : Part) (more : List ℕ) (v : TimeUnit) → IsPart p → unit_at (unit_text p.unit ++ more) ≡ Some v → part_at (part_text p ++ more) ≡ Some (record { whole = p.whole; fraction = p.fraction; unit = v })
part_with p more v is e =
    let bs = p.whole ++ (fraction_text p.fraction ++ (unit_text p.unit ++ more)) in
    let un = fraction_undigit p.fraction p.unit more in
    let w : whole_at bs ≡ p.whole = whole_text p.whole (fraction_text p.fraction ++ (unit_text p.unit ++ more)) is.0.0 un in
    let after : after_whole bs ≡ fraction_text p.fraction ++ (unit_text p.unit ++ more) = whole_after p.whole (fraction_text p.fraction ++ (unit_text p.unit ++ more)) is.0.0 un in
    let f : fraction_at (after_whole bs) ≡ p.fraction = ap fraction_at after ∙ fraction_read p.fraction p.unit more is.1 in
    let left : after_fraction (after_whole bs) ≡ unit_text p.unit ++ more = ap after_fraction after ∙ fraction_left p.fraction p.unit more is.1 in
    let found : unit_at (after_fraction (after_whole bs)) ≡ Some v = ap unit_at left ∙ e in
    ap part_at (part_spread p more) ∙ part_some bs v (λ z. is.0.1 (list_none p.whole (ap length (sym w) ∙ z))) found
    ∙ ap₂ (λ x y. Some (record { whole = x; fraction = y; unit = v })) w f

-- a part is read where it stands, or one that is longer by the `s` after it
pub part_next : (p : Part) (more : List ℕ) → IsPart p → (part_at (part_text p ++ more) ≡ Some p) ⊎ ((q : Part) × (tl : List ℕ) × (more ≡ 115 ∷ tl) × (part_at (part_text p ++ more) ≡ Some q) × (part_len q ≡ part_len p + 1))
part_next p more is =
    elim (unit_next p.unit more) [
      | inl e ↦ inl (part_with p more p.unit is e)
      | inr w ↦ inr (
        record { whole = p.whole; fraction = p.fraction; unit = w.0 },
        w.1,
        w.2,
        part_with p more w.0 is w.3,
        omega (arith, w.4, length-append p.whole (fraction_text p.fraction ++ unit_text p.unit), length-append (fraction_text p.fraction) (unit_text p.unit), length-append p.whole (fraction_text p.fraction ++ unit_text w.0), length-append (fraction_text p.fraction) (unit_text w.0)),
      )
    ]

texts_fit : (p : Part) (ps qs : List Part) → qs ≡ p ∷ ps → part_len p ≤ length (flat_map part_text qs)
texts_fit p ps qs e = omega (arith, ap (λ t. length (flat_map part_text t)) e, length-append (part_text p) (flat_map part_text ps))

-- what parts are written with begins with a digit, so no `s` is first
pub digit_first : (ds t tl : List ℕ) → IsDigitRun ds → ds ++ t ≡ 115 ∷ tl → ⊥
digit_first [] t tl d e = d.1 refl
digit_first (x ∷ xs) t tl d e =
    let parts = both (is_ascii_digit x) (list_all is_ascii_digit xs) d.0 in
    let same : x ≡ 115 = cc in
    let z : is_ascii_digit 115 ≡ true = ap is_ascii_digit (sym same) ∙ parts.0 in
    absurd (cc)

abbrev Farther : List Part → List ℕ → Type 0
Farther ps rest = (parts (flat_map part_text ps ++ rest) ≡ ps ++ parts rest) ⊎ (length (flat_map part_text ps) < length (flat_map part_text (parts (flat_map part_text ps ++ rest))))

last_far : (p : Part) (rest : List ℕ) → (part_at (part_text p ++ rest) ≡ Some p) ⊎ ((q : Part) × (tl : List ℕ) × (rest ≡ 115 ∷ tl) × (part_at (part_text p ++ rest) ≡ Some q) × (part_len q ≡ part_len p + 1)) → (parts (part_text p ++ rest) ≡ p ∷ parts rest) ⊎ (part_len p < length (flat_map part_text (parts (part_text p ++ rest))))
last_far p rest (inl e) = inl (parts_more (part_text p ++ rest) p e ∙ ap (λ t. p ∷ parts t) (drop_at (part_text p) rest (part_len p) refl))
last_far p rest (inr w) =
    inr (omega (arith, w.4, texts_fit w.0 (parts (drop (part_len w.0) (part_text p ++ rest))) (parts (part_text p ++ rest)) (parts_more (part_text p ++ rest) w.0 w.3)))

more_far : (p : Part) (ps : List Part) (rest : List ℕ) → (part_at (part_text p ++ (flat_map part_text ps ++ rest)) ≡ Some p) → Farther ps rest → Farther (p ∷ ps) rest
more_far p ps rest e ih =
    let more = flat_map part_text ps ++ rest in
    let text : flat_map part_text (p ∷ ps) ++ rest ≡ part_text p ++ more = append_assoc (part_text p) (flat_map part_text ps) rest in
    let found : parts (flat_map part_text (p ∷ ps) ++ rest) ≡ p ∷ parts more = ap parts text ∙ parts_more (part_text p ++ more) p e ∙ ap (λ t. p ∷ parts t) (drop_at (part_text p) more (part_len p) refl) in
    elim ih [
      | inl same ↦ inl (found ∙ ap (λ t. p ∷ t) same)
      | inr far ↦ inr (omega (arith, far, ap (λ t. length (flat_map part_text t)) found, length-append (part_text p) (flat_map part_text ps), length-append (part_text p) (flat_map part_text (parts more))))
    ]

far : (ps : List Part) (rest : List ℕ) → (ps ≡ [] → ⊥) → AllByRecursion IsPart ps → Farther ps rest
far [] rest some each = absurd (some refl)
far (p ∷ []) rest some each =
    let text : (part_text p ++ []) ++ rest ≡ part_text p ++ rest = ap (λ t. t ++ rest) (append-nil (part_text p)) in
    let len : length (part_text p ++ []) ≡ part_len p = ap length (append-nil (part_text p)) in
    elim (last_far p rest (part_next p rest each.0)) [
      | inl e ↦ inl (ap parts text ∙ e)
      | inr longer ↦ inr (omega (arith, longer, len, ap (λ t. length (flat_map part_text (parts t))) text))
    ]
far (p ∷ q ∷ ps) rest some each =
    let more = flat_map part_text (q ∷ ps) ++ rest in
    let front : more ≡ q.whole ++ ((fraction_text q.fraction ++ unit_text q.unit) ++ (flat_map part_text ps ++ rest)) = append_assoc (part_text q) (flat_map part_text ps) rest ∙ append_assoc q.whole (fraction_text q.fraction ++ unit_text q.unit) (flat_map part_text ps ++ rest) in
    elim (part_next p more each.0) [
      | inl e ↦ more_far p (q ∷ ps) rest e (far (q ∷ ps) rest (λ z. absurd (cc)) each.1)
      | inr w ↦ absurd (digit_first q.whole ((fraction_text q.fraction ++ unit_text q.unit) ++ (flat_map part_text ps ++ rest)) w.1 each.1.0.0 (sym front ∙ w.2))
    ]

abbrev pub number_walk : List ℕ → Option (TokenKind × ℕ)
number_walk bs = Some (number_at bs)

pub kind_nanos : (k s n : ℕ) → s ≡ n * 10 ^ k → n < LIMIT → duration_kind k s ≡ token.Duration n
unfolding duration_kind
kind_nanos k s n e h =
    let P = 10 ^ k in
    let zero_rest : n * P + 0 ≡ s = omega arith in
    let q : (n + 1) * P ≤ LIMIT * P = mul-le-mul (omega arith) (omega arith) in
    let pos = power_some k in
    let less : s < LIMIT * P = omega arith in
    let out : nat_le (LIMIT * P) s ≡ false = grind (arith, nat_tests) in
    let m : s % P ≡ 0 = ap (λ z. z % P) (sym zero_rest) ∙ mod-mul-add n P 0 pos in
    let d : s / P ≡ n = ap (λ z. z / P) (sym zero_rest) ∙ div-mul-add n P 0 pos in
    ap (λ b. cond b (token.Broken class.Duration fault.NumberRange) (cond (eqb (s % P) 0) (token.Duration (s / P)) (token.Broken class.Duration fault.FractionLiteral))) out
    ∙ ap₂ (λ x y. cond (eqb x 0) (token.Duration y) (token.Broken class.Duration fault.FractionLiteral)) m d

kind_many : (k s : ℕ) → LIMIT * 10 ^ k ≤ s → duration_kind k s ≡ token.Broken class.Duration fault.NumberRange
unfolding duration_kind
kind_many k s h =
    ap (λ b. cond b (token.Broken class.Duration fault.NumberRange) (cond (eqb (s % 10 ^ k) 0) (token.Duration (s / 10 ^ k)) (token.Broken class.Duration fault.FractionLiteral))) (le-leb (LIMIT * 10 ^ k) s h)

kind_part : (k s : ℕ) → (LIMIT * 10 ^ k ≤ s → ⊥) → ((n : ℕ) → s ≡ n * 10 ^ k → ⊥) → duration_kind k s ≡ token.Broken class.Duration fault.FractionLiteral
unfolding duration_kind
kind_part k s h none =
    let P = 10 ^ k in
    let out : nat_le (LIMIT * P) s ≡ false = grind (arith, nat_tests) in
    let split = div-add-mod' s P in
    let some : s % P ≡ 0 → ⊥ = λ z. none (s / P) (omega arith) in
    ap (λ b. cond b (token.Broken class.Duration fault.NumberRange) (cond (eqb (s % P) 0) (token.Duration (s / P)) (token.Broken class.Duration fault.FractionLiteral))) out
    ∙ ap (λ b. cond b (token.Duration (s / P)) (token.Broken class.Duration fault.FractionLiteral)) (ne_eqb (s % P) 0 some)

abbrev pub kind_of_parts : List Part → TokenKind
kind_of_parts ps = duration_kind (places ps) (scaled (places ps) ps)

some_parts : (ps : List Part) → (ps ≡ [] → ⊥) → (bs : List ℕ) → unwrap_or (duration_of ps) (plain_at bs) ≡ (kind_of_parts ps, length (flat_map part_text ps))
unfolding duration_of
some_parts [] h bs = absurd (h refl)
some_parts (p ∷ ps) h bs = refl

pub number_parts : (bs : List ℕ) (ps : List Part) → parts bs ≡ ps → (ps ≡ [] → ⊥) → number_at bs ≡ (kind_of_parts ps, length (flat_map part_text ps))
unfolding number_at duration_at
number_parts bs ps e h = ap (λ t. unwrap_or (duration_of t) (plain_at bs)) e ∙ some_parts ps h bs

pub number_no_parts : (bs : List ℕ) → parts bs ≡ [] → number_at bs ≡ plain_at bs
unfolding number_at duration_at duration_of
number_no_parts bs e = ap (λ t. unwrap_or (duration_of t) (plain_at bs)) e

pub no_append : (ps qs : List Part) → (ps ≡ [] → ⊥) → ps ++ qs ≡ [] → ⊥
no_append [] qs h e = h refl
no_append (p ∷ ps) qs h e = absurd (cc)

texts_join : (ps qs : List Part) → length (flat_map part_text (ps ++ qs)) ≡ length (flat_map part_text ps) + length (flat_map part_text qs)
texts_join [] qs = omega arith
texts_join (p ∷ ps) qs = omega (arith, length-append (part_text p) (flat_map part_text (ps ++ qs)), length-append (part_text p) (flat_map part_text ps), texts_join ps qs)

longer_some : (qs : List Part) (n : ℕ) → n < length (flat_map part_text qs) → qs ≡ [] → ⊥
longer_some qs n h e = let z : length (flat_map part_text qs) ≡ 0 = ap (λ t. length (flat_map part_text t)) e in absurd (omega arith)

reach_parts : (ps : List Part) (rest : List ℕ) (k : TokenKind) → (ps ≡ [] → ⊥) → AllByRecursion IsPart ps → kind_of_parts ps ≡ k → Reaches number_walk (flat_map part_text ps) rest k
reach_parts ps rest k some each e =
    elim (far ps rest some each) [
      | inl same ↦
          record {
            found = (kind_of_parts (ps ++ parts rest), length (flat_map part_text (ps ++ parts rest)));
            is = ap Some (number_parts (flat_map part_text ps ++ rest) (ps ++ parts rest) same (no_append ps (parts rest) some));
            far = omega (arith, texts_join ps (parts rest));
            same = λ z.
                let none : parts rest ≡ [] = no_text (parts rest) (omega (arith, z, texts_join ps (parts rest))) in
                ap (λ t. kind_of_parts (ps ++ t)) none ∙ ap kind_of_parts (append-nil ps) ∙ e;
          }
      | inr longer ↦
          let qs = parts (flat_map part_text ps ++ rest) in
          record {
            found = (kind_of_parts qs, length (flat_map part_text qs));
            is = ap Some (number_parts (flat_map part_text ps ++ rest) qs refl (longer_some qs (length (flat_map part_text ps)) longer));
            far = omega arith;
            same = λ z. absurd (omega arith);
          }
    ]

reach_duration : (w rest : List ℕ) (ps : List Part) (k : TokenKind) → IsDuration w ps → kind_of_parts ps ≡ k → Reaches number_walk w rest k
reach_duration w rest ps k d e = subst (λ t. Reaches number_walk t rest k) (sym d.written) (reach_parts ps rest k d.some d.each e)

unit_is : (bs : List ℕ) (o : Option TimeUnit) (p : Part) → option_map (of_unit bs) o ≡ Some p → (u : TimeUnit) × (p ≡ of_unit bs u)
unit_is bs None p h = absurd (cc)
unit_is bs (Some u) p h = (u, cc)

test_is : (bs : List ℕ) (b : Bool) (p : Part) → cond b None (option_map (of_unit bs) (unit_at (after_fraction (after_whole bs)))) ≡ Some p → (u : TimeUnit) × (p ≡ of_unit bs u)
test_is bs true p h = absurd (cc)
test_is bs false p h = unit_is bs (unit_at (after_fraction (after_whole bs))) p h

part_is : (bs : List ℕ) (p : Part) → part_at bs ≡ Some p → (u : TimeUnit) × (p ≡ of_unit bs u)
unfolding part_at
part_is bs p h = test_is bs (eqb (prefix_len is_ascii_digit bs) 0) p h

pub kind_in : (n m : ℕ) → m ≡ n → m < LIMIT → number_kind n ≡ token.Number m
unfolding number_kind
kind_in n m e h = ap (λ b. cond b (token.Number n) (token.Broken class.Number fault.NumberRange)) (below_limit n (omega arith)) ∙ ap token.Number (sym e)

kind_out : (n : ℕ) → LIMIT ≤ n → number_kind n ≡ token.Broken class.Number fault.NumberRange
unfolding number_kind
kind_out n h = ap (λ b. cond b (token.Number n) (token.Broken class.Number fault.NumberRange)) (above_limit n h)

-- a part is longer than its digits
part_long : (bs : List ℕ) (p : Part) → part_at bs ≡ Some p → prefix_len is_ascii_digit bs + length (fraction_text (fraction_at (after_whole bs))) < part_len p
part_long bs p e =
    let u = part_is bs p e in
    omega (arith, ap (λ z. length (part_text z)) u.1, length-append (whole_at bs) (fraction_text (fraction_at (after_whole bs)) ++ unit_text u.0), length-append (fraction_text (fraction_at (after_whole bs))) (unit_text u.0), whole_len bs, unit_some u.0)

parts_long : (bs : List ℕ) (ps : List Part) → parts bs ≡ ps → (o : Option Part) → part_at bs ≡ o → (ps ≡ []) ⊎ (prefix_len is_ascii_digit bs + length (fraction_text (fraction_at (after_whole bs))) < length (flat_map part_text ps))
parts_long bs ps e None q = inl (sym e ∙ parts_none bs q)
parts_long bs ps e (Some p) q =
    inr (omega (arith, part_long bs p q, texts_fit p (parts (drop (part_len p) bs)) ps (sym e ∙ parts_more bs p q)))

-- the two ways of a number: longer parts, or the digits alone
reach_plain : (w rest : List ℕ) (k : TokenKind) → length w ≤ prefix_len is_ascii_digit (w ++ rest) + length (fraction_text (fraction_at (after_whole (w ++ rest)))) → (prefix_len is_ascii_digit (w ++ rest) + length (fraction_text (fraction_at (after_whole (w ++ rest)))) ≡ length w → plain_of (whole_at (w ++ rest)) (fraction_at (after_whole (w ++ rest))) ≡ k) → (parts (w ++ rest) ≡ []) ⊎ (prefix_len is_ascii_digit (w ++ rest) + length (fraction_text (fraction_at (after_whole (w ++ rest)))) < length (flat_map part_text (parts (w ++ rest)))) → Reaches number_walk w rest k
unfolding plain_at
reach_plain w rest k long same (inl none) = record {
  found = plain_at (w ++ rest);
  is = ap Some (number_no_parts (w ++ rest) none);
  far = long;
  same = same;
}
reach_plain w rest k long same (inr longer) = record {
  found = (kind_of_parts (parts (w ++ rest)), length (flat_map part_text (parts (w ++ rest))));
  is = ap Some (number_parts (w ++ rest) (parts (w ++ rest)) refl (longer_some (parts (w ++ rest)) _ longer));
  far = omega arith;
  same = λ z. absurd (omega arith);
}

fraction_gone : (f : List ℕ) → length (fraction_text f) ≡ 0 → f ≡ []
fraction_gone [] h = refl
fraction_gone (d ∷ ds) h = absurd (omega arith)

reach_digits : (w rest : List ℕ) → IsDigitRun w → Reaches number_walk w rest (number_kind (decimal w))
reach_digits w rest d =
    let n = prefix_append is_ascii_digit w rest d.0 in
    reach_plain w rest (number_kind (decimal w)) (omega arith)
    (λ z.
    let un : Undigit rest = omega arith in
    let gone : length (fraction_text (fraction_at (after_whole (w ++ rest)))) ≡ 0 = omega arith in
    ap₂ plain_of (whole_text w rest d.0 un) (fraction_gone (fraction_at (after_whole (w ++ rest))) gone))
    (parts_long (w ++ rest) (parts (w ++ rest)) refl (part_at (w ++ rest)) refl)

fraction_there : (f whole : List ℕ) (n : ℕ) → length f ≡ suc n → plain_of whole f ≡ token.Broken class.Number fault.FractionLiteral
fraction_there [] whole n h = absurd (omega arith)
fraction_there (d ∷ ds) whole n h = refl

fraction_size : (f : List ℕ) (n : ℕ) → length f ≡ suc n → length (fraction_text f) ≡ suc (suc n)
fraction_size [] n h = absurd (omega arith)
fraction_size (d ∷ ds) n h = omega arith

reach_bare : (whole fraction rest : List ℕ) → IsDigitRun whole → IsDigitRun fraction → Reaches number_walk (whole ++ 46 ∷ fraction) rest (token.Broken class.Number fault.FractionLiteral)
reach_bare whole [] rest d f = absurd (f.1 refl)
reach_bare whole (x ∷ xs) rest d f =
    let fraction = x ∷ xs in
    let w = whole ++ 46 ∷ fraction in
    let text : w ++ rest ≡ whole ++ (46 ∷ (fraction ++ rest)) = append_assoc whole (46 ∷ fraction) rest in
    let n : prefix_len is_ascii_digit (w ++ rest) ≡ length whole = ap (prefix_len is_ascii_digit) text ∙ whole_of whole (46 ∷ (fraction ++ rest)) d.0 refl in
    let after : after_whole (w ++ rest) ≡ 46 ∷ (fraction ++ rest) = ap after_whole text ∙ whole_after whole (46 ∷ (fraction ++ rest)) d.0 refl in
    let read : fraction_at (after_whole (w ++ rest)) ≡ whole_at (fraction ++ rest) = ap fraction_at after ∙ fraction_dot (46 ∷ (fraction ++ rest)) refl in
    let moved : suc (length xs) + prefix_len is_ascii_digit rest ≡ suc (length xs + prefix_len is_ascii_digit rest) = omega arith in
    let size : length (fraction_at (after_whole (w ++ rest))) ≡ suc (length xs + prefix_len is_ascii_digit rest) =
    ap length read ∙ whole_len (fraction ++ rest) ∙ prefix_append is_ascii_digit fraction rest f.0 ∙ moved in
    let texts = fraction_size (fraction_at (after_whole (w ++ rest))) (length xs + prefix_len is_ascii_digit rest) size in
    reach_plain w rest (token.Broken class.Number fault.FractionLiteral) (omega (arith, n, texts, length-append whole (46 ∷ fraction)))
    (λ z. fraction_there (fraction_at (after_whole (w ++ rest))) (whole_at (w ++ rest)) (length xs + prefix_len is_ascii_digit rest) size)
    (parts_long (w ++ rest) (parts (w ++ rest)) refl (part_at (w ++ rest)) refl)

-- the tokens of numbers that are written are reached
pub reach_number : (w rest : List ℕ) (n : ℕ) → IsDigitRun w → n ≡ decimal w → n < LIMIT → Reaches number_walk w rest (token.Number n)
reach_number w rest n d e h = subst (Reaches number_walk w rest) (kind_in (decimal w) n e h) (reach_digits w rest d)

pub reach_large : (w rest : List ℕ) → IsDigitRun w → LIMIT ≤ decimal w → Reaches number_walk w rest (token.Broken class.Number fault.NumberRange)
reach_large w rest d h = subst (Reaches number_walk w rest) (kind_out (decimal w) h) (reach_digits w rest d)

pub reach_decimal : (w rest : List ℕ) → IsBareDecimal w → Reaches number_walk w rest (token.Broken class.Number fault.FractionLiteral)
reach_decimal w rest b = subst (λ t. Reaches number_walk t rest (token.Broken class.Number fault.FractionLiteral)) (sym b.4) (reach_bare b.0 b.1 rest b.2 b.3)

pub reach_nanos : (w rest : List ℕ) (n : ℕ) (ps : List Part) → IsDuration w ps → AreNanos ps n → n < LIMIT → Reaches number_walk w rest (token.Duration n)
reach_nanos w rest n ps d a h = reach_duration w rest ps (token.Duration n) d (kind_nanos (places ps) (scaled (places ps) ps) n a h)

pub reach_many : (w rest : List ℕ) (ps : List Part) → IsDuration w ps → AreTooMany ps → Reaches number_walk w rest (token.Broken class.Duration fault.NumberRange)
reach_many w rest ps d a = reach_duration w rest ps (token.Broken class.Duration fault.NumberRange) d (kind_many (places ps) (scaled (places ps) ps) a)

pub reach_part : (w rest : List ℕ) (ps : List Part) → IsDuration w ps → (AreTooMany ps → ⊥) → ((n : ℕ) → AreNanos ps n → ⊥) → Reaches number_walk w rest (token.Broken class.Duration fault.FractionLiteral)
reach_part w rest ps d a b = reach_duration w rest ps (token.Broken class.Duration fault.FractionLiteral) d (kind_part (places ps) (scaled (places ps) ps) a b)

-- The walk over bytes finds the longest token that stands there, and there is no other.
use Rattle.std.proofs.Common.{◌≡◌, ℕ, ◌+◌, Bool, true, false, cond, eqb, nat_eq, List, [], ◌∷◌, ◌++◌, Option, None, Some, Ok, Err, option_map, find, flat_map, refl, ap, sym, ◌∙◌, subst, arith, append_assoc, append-nil}
use Rattle.std.specs.List.{prefix_len, list_all, starts_with, AllByRecursion}
use Rattle.std.specs.Option.{option_or}
use Rattle.std.specs.Char.{is_ascii_digit}
use Rattle.std.proofs.lemmas.Bool.Decides.{nat_tests}
use Rattle.traceql_tokens.specs.Fixed.{scope_text}
use Rattle.traceql_tokens.specs.Numbers.{IsDigitRun, Part, IsPart, part_text, fraction_text, IsDuration}
use Rattle.traceql_tokens.specs.Fixed.{unit_text}
use Rattle.traceql_tokens.specs.NumberWalk.{number_at}
use Rattle.traceql_tokens.specs.StringWalk.{string_at}
use Rattle.traceql_tokens.specs.Tokens.{IsTokenOf}
use Rattle.traceql_tokens.specs.Walk.{Measured, IsTable, literal_kind, attribute_kind, attribute_at, fixed_at, word_at, token_at}
use Rattle.traceql_tokens.specs.declared.tables.TheConstants.{SCOPES}
use Rattle.traceql_tokens.specs.declared.fixed.AttributeScope.{AttributeScope}
use Rattle.traceql_tokens.specs.declared.fixed.Word.{Word}
use Rattle.traceql_tokens.specs.declared.kinds.Class.{Class}
use Rattle.traceql_tokens.specs.declared.kinds.Class.TheVariants as class
use Rattle.traceql_tokens.specs.declared.kinds.Fault.{Fault}
use Rattle.traceql_tokens.specs.declared.kinds.Fault.TheVariants as fault
use Rattle.traceql_tokens.specs.declared.kinds.TokenKind.{TokenKind}
use Rattle.traceql_tokens.specs.declared.kinds.TokenKind.TheVariants as token
use Rattle.traceql_tokens.proofs.Prefixes.{both, find_passes}
use Rattle.traceql_tokens.proofs.StringLaws.{Value, string_sound}
use Rattle.traceql_tokens.proofs.StringReach.{Reaches, string_reach}
use Rattle.traceql_tokens.proofs.NumberLaws.{number_sound}
use Rattle.traceql_tokens.proofs.NumberReach.{number_walk, reach_number, reach_large, reach_decimal, reach_nanos, reach_many, reach_part}
use Rattle.traceql_tokens.proofs.FixedLaws.{Tokened, sign_reach, word_reach, intrinsic_reach, fixed_sound}
use Rattle.traceql_tokens.proofs.AttributeLaws.{attribute_sound, attribute_reach}

string_token : (words : List Word) (at : ℕ) (bs : List ℕ) (r : Value × ℕ) → string_at at bs ≡ Some r → Tokened words at bs (literal_kind r.0, r.1)
unfolding IsTokenOf literal_kind
string_token words at bs (Ok value, n) e = let f = string_sound at bs (Ok value, n) e in record { word = f.word; rest = f.rest; parted = f.parted; size = f.size; is = f.is; end = f.end; some = f.some }
string_token words at bs (Err g, n) e = let f = string_sound at bs (Err g, n) e in record { word = f.word; rest = f.rest; parted = f.parted; size = f.size; is = f.is; end = f.end; some = f.some }

number_token : (words : List Word) (at : ℕ) (bs : List ℕ) → eqb (prefix_len is_ascii_digit bs) 0 ≡ false → Tokened words at bs (number_at bs)
number_token words at bs h = let f = number_sound bs h in record { word = f.word; rest = f.rest; parted = f.parted; size = f.size; is = f.is words at; end = f.end; some = f.some }

scoped : (words : List Word) (at : ℕ) (bs : List ℕ) (r : Measured) (o : Option AttributeScope) → find (λ x. starts_with nat_eq bs (scope_text x)) SCOPES ≡ o → option_or (option_map (λ s. attribute_at at s bs) o) (fixed_at words bs) ≡ Some r → Tokened words at bs r
scoped words at bs r None e h = fixed_sound words at bs r h
scoped words at bs r (Some s) e h =
    let same : attribute_at at s bs ≡ r = cc in
    subst (Tokened words at bs) same (attribute_sound words at s bs (find_passes (λ x. starts_with nat_eq bs (scope_text x)) s SCOPES e))

worded : (words : List Word) (at : ℕ) (bs : List ℕ) (r : Measured) → word_at words at bs ≡ Some r → Tokened words at bs r
unfolding word_at
worded words at bs r h = scoped words at bs r (find (λ x. starts_with nat_eq bs (scope_text x)) SCOPES) refl h

digit_test : (words : List Word) (at : ℕ) (bs : List ℕ) (r : Measured) (b : Bool) → eqb (prefix_len is_ascii_digit bs) 0 ≡ b → cond b (word_at words at bs) (Some (number_at bs)) ≡ Some r → Tokened words at bs r
digit_test words at bs r true e h = worded words at bs r h
digit_test words at bs r false e h = let same : number_at bs ≡ r = cc in subst (Tokened words at bs) same (number_token words at bs e)

string_test : (words : List Word) (at : ℕ) (bs : List ℕ) (r : Measured) (o : Option (Value × ℕ)) → string_at at bs ≡ o → option_or (option_map (λ found. (literal_kind found.0, found.1)) o) (cond (eqb (prefix_len is_ascii_digit bs) 0) (word_at words at bs) (Some (number_at bs))) ≡ Some r → Tokened words at bs r
string_test words at bs r None e h = digit_test words at bs r (eqb (prefix_len is_ascii_digit bs) 0) refl h
string_test words at bs r (Some q) e h = let same : (literal_kind q.0, q.1) ≡ r = cc in subst (Tokened words at bs) same (string_token words at bs q e)

-- what is found is a token there
pub token_sound : (words : List Word) (at : ℕ) (bs : List ℕ) (r : Measured) → token_at words at bs ≡ Some r → Tokened words at bs r
unfolding token_at
token_sound words at bs r h = string_test words at bs r (string_at at bs) refl h

-- a string that is reached is a token that is reached
literal_reach : (words : List Word) (at : ℕ) (w rest : List ℕ) (v : Value) → Reaches (string_at at) w rest v → Reaches (token_at words at) w rest (literal_kind v)
unfolding token_at
literal_reach words at w rest v r =
    let other = cond (eqb (prefix_len is_ascii_digit (w ++ rest)) 0) (word_at words at (w ++ rest)) (Some (number_at (w ++ rest))) in
    record {
      found = (literal_kind r.found.0, r.found.1);
      is = ap (λ o. option_or (option_map (λ (found : Value × ℕ). (literal_kind found.0, found.1)) o) other) r.is;
      far = r.far;
      same = λ z. ap literal_kind (r.same z);
    }

-- the walk comes to the numbers
digit_unquoted : (b : ℕ) → is_ascii_digit b ≡ true → (eqb b 34 ≡ false) × (eqb b 96 ≡ false)
digit_unquoted b h = (grind (arith, nat_tests), grind (arith, nat_tests))

digit_no_string : (at b : ℕ) (tl : List ℕ) → is_ascii_digit b ≡ true → string_at at (b ∷ tl) ≡ None
unfolding string_at
digit_no_string at b tl h = let u = digit_unquoted b h in rw (u.0, u.1) refl

digit_some : (b : ℕ) (tl : List ℕ) → is_ascii_digit b ≡ true → eqb (prefix_len is_ascii_digit (b ∷ tl)) 0 ≡ false
digit_some b tl h = ap (λ t. eqb (cond t (1 + prefix_len is_ascii_digit tl) 0) 0) h ∙ more (prefix_len is_ascii_digit tl)
  where
    more : (n : ℕ) → eqb (1 + n) 0 ≡ false
    more n = grind (arith, nat_tests)

pub digit_comes : (words : List Word) (at : ℕ) (ds t : List ℕ) → IsDigitRun ds → token_at words at (ds ++ t) ≡ Some (number_at (ds ++ t))
unfolding token_at
digit_comes words at [] t d = absurd (d.1 refl)
digit_comes words at (x ∷ xs) t d =
    let first = (both (is_ascii_digit x) (list_all is_ascii_digit xs) d.0).0 in
    let bs = x ∷ (xs ++ t) in
    ap (λ o. option_or (option_map (λ (found : Value × ℕ). (literal_kind found.0, found.1)) o) (cond (eqb (prefix_len is_ascii_digit bs) 0) (word_at words at bs) (Some (number_at bs)))) (digit_no_string at x (xs ++ t) first)
    ∙ ap (λ b. cond b (word_at words at bs) (Some (number_at bs))) (digit_some x (xs ++ t) first)

-- a text in front of which digits stand
abbrev pub Fronted : List ℕ → Type 0
Fronted w = (ds t : List ℕ) × IsDigitRun ds × (w ≡ ds ++ t)

number_reach : (words : List Word) (at : ℕ) (w rest : List ℕ) (k : TokenKind) → Fronted w → Reaches number_walk w rest k → Reaches (token_at words at) w rest k
number_reach words at w rest k f r =
    let text : w ++ rest ≡ f.0 ++ (f.1 ++ rest) = ap (λ x. x ++ rest) f.3 ∙ append_assoc f.0 f.1 rest in
    record {
      found = r.found;
      is = ap (token_at words at) text ∙ digit_comes words at f.0 (f.1 ++ rest) f.2 ∙ ap (λ x. Some (number_at x)) (sym text) ∙ r.is;
      far = r.far;
      same = r.same;
    }

digits_front : (w : List ℕ) → IsDigitRun w → Fronted w
digits_front w d = (w, [], d, sym (append-nil w))

parts_front : (ps : List Part) → (ps ≡ [] → ⊥) → AllByRecursion IsPart ps → Fronted (flat_map part_text ps)
parts_front [] h each = absurd (h refl)
parts_front (p ∷ ps) h each =
    (p.whole, (fraction_text p.fraction ++ unit_text p.unit) ++ flat_map part_text ps, each.0.0, append_assoc p.whole (fraction_text p.fraction ++ unit_text p.unit) (flat_map part_text ps))

pub duration_front : (w : List ℕ) (ps : List Part) → IsDuration w ps → Fronted w
duration_front w ps d = subst Fronted (sym d.written) (parts_front ps d.some d.each)

broken_reach : (words : List Word) (at : ℕ) (w rest : List ℕ) (c : Class) (f : Fault) → IsTokenOf words at w (token.Broken c f) → Reaches (token_at words at) w rest (token.Broken c f)
unfolding IsTokenOf literal_kind attribute_kind
broken_reach words at w rest class.Quoted f h = literal_reach words at w rest (Err f) (string_reach at w rest (Err f) h)
broken_reach words at w rest class.Attribute f h = attribute_reach words at w rest h.0 (Err f) h.1
broken_reach words at w rest class.Number fault.NumberRange h = number_reach words at w rest (token.Broken class.Number fault.NumberRange) (digits_front w h.0) (reach_large w rest h.0 h.1)
broken_reach words at w rest class.Number fault.FractionLiteral h = number_reach words at w rest (token.Broken class.Number fault.FractionLiteral) (h.0, 46 ∷ h.1, h.2, h.4) (reach_decimal w rest h)
broken_reach words at w rest class.Number (fault.Unended p) h = absurd h
broken_reach words at w rest class.Number (fault.UnknownEscape p) h = absurd h
broken_reach words at w rest class.Duration fault.NumberRange h = number_reach words at w rest (token.Broken class.Duration fault.NumberRange) (duration_front w h.0 h.1) (reach_many w rest h.0 h.1 h.2)
broken_reach words at w rest class.Duration fault.FractionLiteral h = number_reach words at w rest (token.Broken class.Duration fault.FractionLiteral) (duration_front w h.0 h.1) (reach_part w rest h.0 h.1 h.2 h.3)
broken_reach words at w rest class.Duration (fault.Unended p) h = absurd h
broken_reach words at w rest class.Duration (fault.UnknownEscape p) h = absurd h

named_reach : (words : List Word) (at : ℕ) (w rest : List ℕ) (s : AttributeScope) (name : List ℕ) → IsTokenOf words at w (token.Named s name) → Reaches (token_at words at) w rest (token.Named s name)
unfolding IsTokenOf attribute_kind
named_reach words at w rest s [] h = absurd (h.0 refl)
named_reach words at w rest s (b ∷ bs) h = attribute_reach words at w rest s (Ok (b ∷ bs)) h.1

-- a token that stands in front is reached
pub token_reach : (words : List Word) → IsTable words → (at : ℕ) (w rest : List ℕ) (k : TokenKind) → IsTokenOf words at w k → Reaches (token_at words at) w rest k
unfolding IsTokenOf literal_kind attribute_kind
token_reach words ordered at w rest (token.Mark s) h = subst (λ t. Reaches (token_at words at) t rest (token.Mark s)) (sym h) (sign_reach words at s rest)
token_reach words ordered at w rest (token.Keyword x) h = subst (λ t. Reaches (token_at words at) t rest (token.Keyword x)) (sym h.0) (word_reach words ordered at x h.1 rest)
token_reach words ordered at w rest (token.Builtin i) h = subst (λ t. Reaches (token_at words at) t rest (token.Builtin i)) (sym h) (intrinsic_reach words at i rest)
token_reach words ordered at w rest (token.Named s name) h = named_reach words at w rest s name h
token_reach words ordered at w rest token.Nameless h = attribute_reach words at w rest h.0 (Ok []) h.1
token_reach words ordered at w rest (token.Quoted value) h = literal_reach words at w rest (Ok value) (string_reach at w rest (Ok value) h)
token_reach words ordered at w rest (token.Number n) h = number_reach words at w rest (token.Number n) (digits_front w h.0) (reach_number w rest n h.0 h.1 h.2)
token_reach words ordered at w rest (token.Duration n) h = number_reach words at w rest (token.Duration n) (duration_front w h.0 h.1) (reach_nanos w rest n h.0 h.1 h.2 h.3)
token_reach words ordered at w rest (token.Broken c f) h = broken_reach words at w rest c f h
token_reach words ordered at w rest token.Unknown h = absurd h

-- For printing: a token without a fault is found as it is written before the end, a space or a closing parenthesis, so
-- that nothing lengthens it; an opening parenthesis is found before anything.
use Rattle.std.proofs.Common.{◌≡◌, ℕ, suc, ◌+◌, ◌<◌, List, [], ◌∷◌, ◌++◌, length, get_or, drop, take, None, Some, Ok, flat_map, inl, inr, refl, ap, ap₂, sym, ◌∙◌, subst, arith, append_assoc, append-nil, length-append}
use Rattle.std.specs.List.{prefix_len, list_all, AllByRecursion}
use Rattle.std.specs.Char.{is_ascii_digit}
use Rattle.std.proofs.lemmas.List.{take_at, drop_at}
use Rattle.traceql_tokens.specs.Bytes.{is_name_byte, decimal}
use Rattle.traceql_tokens.specs.Fixed.{scope_text, unit_text}
use Rattle.traceql_tokens.specs.Numbers.{LIMIT, IsDigitRun, Part, IsPart, part_text, fraction_text, places, scaled, IsDuration, AreNanos}
use Rattle.traceql_tokens.specs.NumberWalk.{whole_at, after_whole, after_fraction, fraction_at, unit_at, part_at, part_len, parts, number_kind, number_at}
use Rattle.traceql_tokens.specs.Printed.{Apart, at_end, at_space, at_paren, IsSound}
use Rattle.traceql_tokens.specs.Tokens.{IsName, IsAttribute, IsToken, IsTokenOf, AreTokens, AreTokensOf}
use Rattle.traceql_tokens.specs.Walk.{name_at, attribute_kind, literal_kind, token_at}
use Rattle.traceql_tokens.specs.declared.fixed.AttributeScope.{AttributeScope}
use Rattle.traceql_tokens.specs.declared.fixed.Sign.TheVariants as sign
use Rattle.traceql_tokens.specs.declared.kinds.Token.{Token}
use Rattle.traceql_tokens.specs.declared.kinds.TokenKind.{TokenKind}
use Rattle.traceql_tokens.specs.declared.kinds.TokenKind.TheVariants as token
use Rattle.traceql_tokens.specs.declared.tables.TheConstants.{WORDS}
use Rattle.traceql_tokens.proofs.Prefixes.{both}
use Rattle.traceql_tokens.proofs.NumberSteps.{part_unitless}
use Rattle.traceql_tokens.proofs.NumberCases.{plain_whole}
use Rattle.traceql_tokens.proofs.Parts.{parts_none, parts_more}
use Rattle.traceql_tokens.proofs.NumberReach.{Undigit, whole_text, whole_after, part_next, digit_first, number_parts, number_no_parts, kind_in, kind_nanos}
use Rattle.traceql_tokens.proofs.StringReach.{whole_walk, prefix_append}
use Rattle.traceql_tokens.proofs.LexerCases.{token_string, name_string, name_bare, attribute_named}
use Rattle.traceql_tokens.proofs.FixedLaws.{word_order, sign_exact, word_exact, intrinsic_exact, paren_exact}
use Rattle.traceql_tokens.proofs.AttributeLaws.{scope_comes, name_no_string}
use Rattle.traceql_tokens.proofs.TokenLaws.{digit_comes, duration_front}
use Rattle.traceql_tokens.proofs.TokensLaws.{found_solid, makes_more, blanks_of, left_of}

-- what keeps apart is no digit, no unit, no dot and no part of a name
undigit : (rest : List ℕ) → Apart rest → Undigit rest
undigit rest (at_end e) = ap (prefix_len is_ascii_digit) e
undigit rest (at_space tl e) = ap (prefix_len is_ascii_digit) e
undigit rest (at_paren tl e) = ap (prefix_len is_ascii_digit) e

unnamed : (rest : List ℕ) → Apart rest → prefix_len is_name_byte rest ≡ 0
unnamed rest (at_end e) = ap (prefix_len is_name_byte) e
unnamed rest (at_space tl e) = ap (prefix_len is_name_byte) e
unnamed rest (at_paren tl e) = ap (prefix_len is_name_byte) e

undot : (rest : List ℕ) → Apart rest → fraction_at rest ≡ []
unfolding fraction_at
undot rest (at_end e) = ap fraction_at e
undot rest (at_space tl e) = ap fraction_at e
undot rest (at_paren tl e) = ap fraction_at e

no_unit : (rest : List ℕ) → Apart rest → unit_at rest ≡ None
no_unit rest (at_end e) = ap unit_at e
no_unit rest (at_space tl e) = ap unit_at e
no_unit rest (at_paren tl e) = ap unit_at e

unitless : (rest : List ℕ) → Apart rest → unit_at (after_fraction rest) ≡ None
unitless rest a = ap (λ f. unit_at (drop (length (fraction_text f)) rest)) (undot rest a) ∙ no_unit rest a

no_part : (rest : List ℕ) → Apart rest → part_at rest ≡ None
unfolding part_at
no_part rest (at_end e) = ap part_at e
no_part rest (at_space tl e) = ap part_at e
no_part rest (at_paren tl e) = ap part_at e

below_second : (x : ℕ) → x < 100 → x ≡ 115 → ⊥
below_second x h e = absurd (omega arith)

no_second : (rest : List ℕ) (tl : List ℕ) → Apart rest → rest ≡ 115 ∷ tl → ⊥
no_second rest tl (at_end e) h = below_second 0 (omega arith) (ap (λ x. get_or x 0 0) (sym e ∙ h))
no_second rest tl (at_space t e) h = below_second 32 (omega arith) (ap (λ x. get_or x 0 0) (sym e ∙ h))
no_second rest tl (at_paren t e) h = below_second 41 (omega arith) (ap (λ x. get_or x 0 0) (sym e ∙ h))

number_exact : (at n : ℕ) (w rest : List ℕ) → IsDigitRun w → n ≡ decimal w → n < LIMIT → Apart rest → token_at WORDS at (w ++ rest) ≡ Some (token.Number n, length w)
number_exact at n w rest d e h a =
    let bs = w ++ rest in
    let un = undigit rest a in
    let after : after_whole bs ≡ rest = whole_after w rest d.0 un in
    let text : whole_at bs ≡ w = whole_text w rest d.0 un in
    let none : part_at bs ≡ None = part_unitless bs (ap (λ t. unit_at (after_fraction t)) after ∙ unitless rest a) in
    let dot : length (fraction_at (after_whole bs)) ≡ 0 = ap (λ t. length (fraction_at t)) after ∙ ap length (undot rest a) in
    digit_comes WORDS at w rest d ∙ ap Some (number_no_parts bs (parts_none bs none) ∙ plain_whole bs dot ∙ ap (λ t. (number_kind (decimal t), length t)) text ∙ ap (λ k. (k, length w)) (kind_in (decimal w) n e h))

near : (ps : List Part) (rest : List ℕ) → AllByRecursion IsPart ps → Apart rest → parts (flat_map part_text ps ++ rest) ≡ ps
near [] rest each a = parts_none rest (no_part rest a)
near (p ∷ []) rest each a =
    let text : (part_text p ++ []) ++ rest ≡ part_text p ++ rest = ap (λ t. t ++ rest) (append-nil (part_text p)) in
    elim (part_next p rest each.0) [
      | inl e ↦ ap parts text ∙ parts_more (part_text p ++ rest) p e ∙ ap (λ t. p ∷ parts t) (drop_at (part_text p) rest (part_len p) refl) ∙ ap (λ t. p ∷ t) (parts_none rest (no_part rest a))
      | inr w ↦ absurd (no_second rest w.1 a w.2)
    ]
near (p ∷ q ∷ ps) rest each a =
    let more = flat_map part_text (q ∷ ps) ++ rest in
    let front : more ≡ q.whole ++ ((fraction_text q.fraction ++ unit_text q.unit) ++ (flat_map part_text ps ++ rest)) = append_assoc (part_text q) (flat_map part_text ps) rest ∙ append_assoc q.whole (fraction_text q.fraction ++ unit_text q.unit) (flat_map part_text ps ++ rest) in
    let text : flat_map part_text (p ∷ q ∷ ps) ++ rest ≡ part_text p ++ more = append_assoc (part_text p) (flat_map part_text (q ∷ ps)) rest in
    elim (part_next p more each.0) [
      | inl e ↦ ap parts text ∙ parts_more (part_text p ++ more) p e ∙ ap (λ t. p ∷ parts t) (drop_at (part_text p) more (part_len p) refl) ∙ ap (λ t. p ∷ t) (near (q ∷ ps) rest each.1 a)
      | inr w ↦ absurd (digit_first q.whole ((fraction_text q.fraction ++ unit_text q.unit) ++ (flat_map part_text ps ++ rest)) w.1 each.1.0.0 (sym front ∙ w.2))
    ]

duration_exact : (at n : ℕ) (w rest : List ℕ) (ps : List Part) → IsDuration w ps → AreNanos ps n → n < LIMIT → Apart rest → token_at WORDS at (w ++ rest) ≡ Some (token.Duration n, length w)
duration_exact at n w rest ps d nanos h a =
    let bs = w ++ rest in
    let front = duration_front w ps d in
    let text : bs ≡ front.0 ++ (front.1 ++ rest) = ap (λ x. x ++ rest) front.3 ∙ append_assoc front.0 front.1 rest in
    let comes : token_at WORDS at bs ≡ Some (number_at bs) = ap (token_at WORDS at) text ∙ digit_comes WORDS at front.0 (front.1 ++ rest) front.2 ∙ ap (λ x. Some (number_at x)) (sym text) in
    let found : parts bs ≡ ps = ap (λ t. parts (t ++ rest)) d.written ∙ near ps rest d.each a in
    comes ∙ ap Some (number_parts bs ps found d.some ∙ ap₂ (λ k n. (k, n)) (kind_nanos (places ps) (scaled (places ps) ps) n nanos h) (ap length (sym d.written)))

name_exact : (at : ℕ) (w rest name : List ℕ) → (name ≡ [] → ⊥) → IsName at w (Ok name) → Apart rest → name_at at (w ++ rest) ≡ (Ok name, length w)
name_exact at w rest name some (inr (string)) a = name_string at (w ++ rest) (Ok name, length w) (whole_walk at w name rest string)
name_exact at w rest [] some (inl bare) a = absurd (some refl)
name_exact at w rest (b ∷ bs) some (inl bare) a =
    let name = b ∷ bs in
    let first = (both (is_name_byte b) (list_all is_name_byte bs) bare.1).0 in
    let size = prefix_append is_name_byte name rest bare.1 in
    let un = unnamed rest a in
    let len : prefix_len is_name_byte (name ++ rest) ≡ length name = omega arith in
    ap (λ t. name_at at (t ++ rest)) bare.0 ∙ name_bare at (name ++ rest) (name_no_string at b (bs ++ rest) first)
    ∙ ap (λ n. (Ok (take n (name ++ rest)), n)) len ∙ ap₂ (λ t n. (Ok t, n)) (take_at name rest (length name) refl) (ap length (sym bare.0))

attribute_exact : (at : ℕ) (s : AttributeScope) (w rest name : List ℕ) → (name ≡ [] → ⊥) → IsAttribute at w s (Ok name) → Apart rest → token_at WORDS at (w ++ rest) ≡ Some (attribute_kind s (Ok name), length w)
attribute_exact at s w rest name some h a =
    let t = scope_text s in
    let text : w ++ rest ≡ t ++ (h.rest ++ rest) = ap (λ x. x ++ rest) h.written ∙ append_assoc t h.rest rest in
    let left : drop (length t) (t ++ (h.rest ++ rest)) ≡ h.rest ++ rest = drop_at t (h.rest ++ rest) (length t) refl in
    let named : name_at (at + length t) (drop (length t) (t ++ (h.rest ++ rest))) ≡ (Ok name, length h.rest) = ap (name_at (at + length t)) left ∙ name_exact (at + length t) h.rest rest name some h.named a in
    ap (token_at WORDS at) text ∙ scope_comes s WORDS at (h.rest ++ rest) ∙ ap Some (attribute_named at (length h.rest) s (t ++ (h.rest ++ rest)) (Ok name) named ∙ ap (λ n. (attribute_kind s (Ok name), n)) (sym (ap length h.written ∙ length-append t h.rest)))

named_exact : (at : ℕ) (s : AttributeScope) (w rest name : List ℕ) → (name ≡ [] → ⊥) → IsAttribute at w s (Ok name) → Apart rest → token_at WORDS at (w ++ rest) ≡ Some (token.Named s name, length w)
unfolding attribute_kind
named_exact at s w rest [] some h a = absurd (some refl)
named_exact at s w rest (b ∷ bs) some h a = attribute_exact at s w rest (b ∷ bs) some h a

-- nothing lengthens a sound token across what keeps it apart
pub token_exact : (at : ℕ) (w rest : List ℕ) (k : TokenKind) → IsToken at w k → IsSound k → Apart rest → token_at WORDS at (w ++ rest) ≡ Some (k, length w)
unfolding IsTokenOf literal_kind
token_exact at w rest (token.Mark s) h o a = subst (λ t. token_at WORDS at (t ++ rest) ≡ Some (token.Mark s, length t)) (sym h) (sign_exact WORDS at s rest a)
token_exact at w rest (token.Keyword x) h o a = subst (λ t. token_at WORDS at (t ++ rest) ≡ Some (token.Keyword x, length t)) (sym h.0) (word_exact WORDS word_order at x h.1 rest a)
token_exact at w rest (token.Builtin i) h o a = subst (λ t. token_at WORDS at (t ++ rest) ≡ Some (token.Builtin i, length t)) (sym h) (intrinsic_exact WORDS at i rest a)
token_exact at w rest (token.Named s name) h o a = named_exact at s w rest name h.0 h.1 a
token_exact at w rest (token.Quoted value) h o a = token_string WORDS at (length w) (w ++ rest) (Ok value) (whole_walk at w value rest h)
token_exact at w rest (token.Number n) h o a = number_exact at n w rest h.0 h.1 h.2 a
token_exact at w rest (token.Duration n) h o a = duration_exact at n w rest h.0 h.1 h.2 h.3 a
token_exact at w rest (token.Broken c f) h o a = absurd o
token_exact at w rest token.Nameless h o a = absurd o
token_exact at w rest token.Unknown h o a = absurd o

-- a token that is found at the front, and the tokens of the rest
pub tokens_after : (at : ℕ) (w rest : List ℕ) (k : TokenKind) (ts : List Token) → token_at WORDS at (w ++ rest) ≡ Some (k, length w) → AreTokens (at + length w) rest ts → AreTokens at (w ++ rest) (record { at = at; kind = k } ∷ ts)
tokens_after at w rest k ts e more =
    let bs = w ++ rest in
    let solid : blanks_of bs ≡ 0 = found_solid WORDS at bs (k, length w) e in
    let left : left_of bs ≡ bs = ap (λ n. drop n bs) solid in
    let place : at + blanks_of bs ≡ at = omega arith in
    let behind_is : drop (length w) (left_of bs) ≡ rest = ap (drop (length w)) left ∙ drop_at w rest (length w) refl in
    subst (λ q. AreTokens at bs (record { at = q; kind = k } ∷ ts)) place
    (makes_more WORDS word_order at bs (k, length w) ts (ap₂ (token_at WORDS) place left ∙ e) (subst (λ q. AreTokens (q + length w) (drop (length w) (left_of bs)) ts) (sym place) (subst (λ q. AreTokens (at + length w) q ts) (sym behind_is) more)))

pub printed_token : (at : ℕ) (w rest : List ℕ) (k : TokenKind) (ts : List Token) → IsToken at w k → IsSound k → Apart rest → AreTokens (at + length w) rest ts → AreTokens at (w ++ rest) (record { at = at; kind = k } ∷ ts)
printed_token at w rest k ts is sound apart_ more = tokens_after at w rest k ts (token_exact at w rest k is sound apart_) more

-- a space in front moves the tokens by one
pub printed_space : (at : ℕ) (text : List ℕ) (ts : List Token) → AreTokens (at + 1) text ts → AreTokens at (32 ∷ text) ts
unfolding AreTokensOf
printed_space at text [] h = h
printed_space at text (t ∷ ts) h =
    let moved : t.at ≡ at + suc (length h.0) = h.4 ∙ (omega arith) in
    (32 ∷ h.0, h.1, h.2, ap (λ x. 32 ∷ x) h.3, moved, h.5)

pub printed_paren : (at : ℕ) (rest : List ℕ) (ts : List Token) → AreTokens (at + 1) rest ts → AreTokens at (40 ∷ rest) (record { at = at; kind = token.Mark sign.OpenParen } ∷ ts)
printed_paren at rest ts more = tokens_after at (40 ∷ []) rest (token.Mark sign.OpenParen) ts (paren_exact WORDS at rest) more

pub printed_end : (at : ℕ) → AreTokens at [] []
unfolding AreTokensOf
printed_end at = refl

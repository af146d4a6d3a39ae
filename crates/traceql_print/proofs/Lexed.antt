-- The printed tokens are the tokens of the printed text, since a space or a parenthesis stands after each.
use Rattle.std.proofs.Common.{◌≡◌, ℕ, ◌+◌, ◌-◌, ◌*◌, ◌/◌, ◌%◌, ◌^◌, ◌<◌, ◌≤◌, Bool, true, false, cond, eqb, List, [], ◌∷◌, ◌++◌, length, map, Option, Some, None, Ok, refl, ap, ap₂, sym, subst, ◌∙◌, inl, inr, arith, ◌&&◌, if◌then◌else◌, length-append, eqb-true, append-nil, codes}
use Rattle.std.specs.Char.{is_ascii_digit}
use Rattle.std.specs.Fmt.{decimal}
use Rattle.std.specs.List.{Contains, list_all, AllByRecursion}
use Rattle.std.proofs.lemmas.Fmt.{decimal_by_steps}
use Rattle.std.proofs.lemmas.List.Sums.{fold-append}
use Rattle.std.proofs.lemmas.List.Folds.{list_all-append}
use Rattle.traceql_tokens.specs.Bytes as bytes
use Rattle.traceql_tokens.specs.Bytes.{is_name_byte, AreDigits}
use Rattle.traceql_tokens.specs.Fixed.{scope_text}
use Rattle.traceql_tokens.specs.Numbers.{LIMIT, Part, IsDigitRun, IsDuration, AreNanos}
use Rattle.traceql_tokens.specs.Printed.{Apart, at_end, at_space, at_paren, IsSound}
use Rattle.traceql_tokens.specs.Strings.{is_plain, IsPiece, ArePieces, Means, IsWhole, whole_quoted, meaning}
use Rattle.traceql_tokens.specs.Tokens.{IsName, IsToken, IsTokenOf, AreTokens, query_words}
use Rattle.traceql_tokens.specs.declared.fixed.Sign.TheVariants as sign
use Rattle.traceql_tokens.specs.declared.fixed.Word.{Word}
use Rattle.traceql_tokens.specs.declared.fixed.Word.TheVariants as word
use Rattle.traceql_tokens.specs.declared.kinds.Token.{Token}
use Rattle.traceql_tokens.specs.declared.kinds.TokenKind.{TokenKind}
use Rattle.traceql_tokens.specs.declared.kinds.TokenKind.TheVariants as token
use Rattle.traceql_tokens.specs.declared.units.TimeUnit.TheVariants as unit
use Rattle.traceql_tokens.proofs.Printed.{printed_token, printed_space, printed_paren, printed_end}
use Rattle.traceql_print.specs.Text.{piece_or, piece_of, escaped_text, quoted_text, name_text, kind_text, opens, closes, gap, text_from}

-- a word that isn't of metrics queries alone
abbrev pub IsQueryWord : Word → Type 0
IsQueryWord word.Rate = ⊥
IsQueryWord word.CountOverTime = ⊥
IsQueryWord _ = Unit {0}

query_word : (w : Word) → IsQueryWord w → Contains query_words w
query_word word.Unspecified h = (0, omega arith, refl)
query_word word.Producer h = (1, omega arith, refl)
query_word word.Consumer h = (2, omega arith, refl)
query_word word.Internal h = (3, omega arith, refl)
query_word word.Coalesce h = (4, omega arith, refl)
query_word word.Server h = (5, omega arith, refl)
query_word word.Client h = (6, omega arith, refl)
query_word word.Select h = (7, omega arith, refl)
query_word word.False h = (8, omega arith, refl)
query_word word.Error h = (9, omega arith, refl)
query_word word.Unset h = (10, omega arith, refl)
query_word word.Count h = (11, omega arith, refl)
query_word word.True h = (12, omega arith, refl)
query_word word.Nil h = (13, omega arith, refl)
query_word word.Avg h = (14, omega arith, refl)
query_word word.Min h = (15, omega arith, refl)
query_word word.Max h = (16, omega arith, refl)
query_word word.Sum h = (17, omega arith, refl)
query_word word.Fine h = (18, omega arith, refl)
query_word word.By h = (19, omega arith, refl)
query_word word.Rate h = absurd h
query_word word.CountOverTime h = absurd h

-- a token that a query's text can have: no fault, a word of queries, a name that isn't empty, and a number in range
abbrev pub Fits : TokenKind → Type 0
Fits (token.Broken c f) = ⊥
Fits token.Nameless = ⊥
Fits token.Unknown = ⊥
Fits (token.Mark s) = Unit {0}
Fits (token.Keyword w) = IsQueryWord w
Fits (token.Builtin i) = Unit {0}
Fits (token.Named s name) = name ≡ [] → ⊥
Fits (token.Quoted value) = Unit {0}
Fits (token.Number n) = n < LIMIT
Fits (token.Duration n) = n < LIMIT

fits_sound : (k : TokenKind) → Fits k → IsSound k
fits_sound (token.Broken c f) h = h
fits_sound token.Nameless h = h
fits_sound token.Unknown h = h
fits_sound (token.Mark s) h = tt
fits_sound (token.Keyword w) h = tt
fits_sound (token.Builtin i) h = tt
fits_sound (token.Named s name) h = tt
fits_sound (token.Quoted value) h = tt
fits_sound (token.Number n) h = tt
fits_sound (token.Duration n) h = tt

-- a byte without an escape is neither the quote nor the backslash, and an escape stands for its byte
piece_right : (b : ℕ) → IsPiece (piece_of b) × (meaning (piece_of b) ≡ Some b)
piece_right b =
    by_test (eqb b 34) (eqb b 92) (eqb b 10) (eqb b 13) (eqb b 9) refl refl (eqb-true b 34) (eqb-true b 92) (eqb-true b 10) (eqb-true b 13) (eqb-true b 9)
  where
    plain : eqb b 34 ≡ false → eqb b 92 ≡ false → is_plain b ≡ true
    plain p q = rw (p, q) refl

    Right : Option ℕ → Type 0
    Right o = IsPiece (piece_or b o) × (meaning (piece_or b o) ≡ Some b)

    by_test : (p q r s t : Bool) → eqb b 34 ≡ p → eqb b 92 ≡ q → (p ≡ true → b ≡ 34) → (q ≡ true → b ≡ 92) → (r ≡ true → b ≡ 10) → (s ≡ true → b ≡ 13) → (t ≡ true → b ≡ 9) → Right (cond p (Some 34) (cond q (Some 92) (cond r (Some 110) (cond s (Some 114) (cond t (Some 116) None)))))
    by_test true q r s t p1 q1 f1 f2 f3 f4 f5 = (tt, ap Some (sym (f1 refl)))
    by_test false true r s t p1 q1 f1 f2 f3 f4 f5 = (tt, ap Some (sym (f2 refl)))
    by_test false false true s t p1 q1 f1 f2 f3 f4 f5 = (tt, ap Some (sym (f3 refl)))
    by_test false false false true t p1 q1 f1 f2 f3 f4 f5 = (tt, ap Some (sym (f4 refl)))
    by_test false false false false true p1 q1 f1 f2 f3 f4 f5 = (tt, ap Some (sym (f5 refl)))
    by_test false false false false false p1 q1 f1 f2 f3 f4 f5 = (plain p1 q1, refl)

pieces_right : (value : List ℕ) → ArePieces (map piece_of value) × Means (map piece_of value) value
pieces_right [] = (tt, refl)
pieces_right (b ∷ bs) =
    let one = piece_right b in
    let more = pieces_right bs in
    ((one.0, more.0), ap₂ (λ x xs. x ∷ xs) one.1 more.1)

quoted_whole : (value : List ℕ) → IsWhole (quoted_text value) value
unfolding escaped_text
quoted_whole value = let right = pieces_right value in whole_quoted (map piece_of value) right.0 right.1 refl

name_right : (at : ℕ) (name : List ℕ) (bare : Bool) → list_all is_name_byte name ≡ bare → IsName at (if bare then name else quoted_text name) (Ok name)
name_right at name true e = inl (refl, e)
name_right at name false e = inr (quoted_whole name)

-- what a decimal text is
abbrev pub Numeral : ℕ → List ℕ → Type 0
Numeral n digits = IsDigitRun digits × (n ≡ bytes.decimal digits)

digit_test : (d : ℕ) → d < 10 → is_ascii_digit (48 + d) ≡ true
digit_test d h = grind (arith)

numeral : (n : ℕ) → n < 2 ^ 64 → Numeral n (decimal n)
numeral = decimal_by_steps Numeral one more
  where
    one : (n : ℕ) → n < 10 → Numeral n ((48 + n) ∷ [])
    one n h = ((ap (λ b. b && true) (digit_test n h), λ e. cc), omega arith)

    more : (n : ℕ) (ds : List ℕ) → 10 ≤ n → Numeral (n / 10) ds → Numeral n (ds ++ ((48 + n % 10) ∷ []))
    more n ds h d =
        let last = 48 + n % 10 in
        let digit : is_ascii_digit last ≡ true = digit_test (n % 10) (omega arith) in
        let all : list_all is_ascii_digit (ds ++ last ∷ []) ≡ true = list_all-append is_ascii_digit ds (last ∷ []) ∙ ap₂ (λ x y. x && (y && true)) d.0.0 digit in
        let some : ds ++ last ∷ [] ≡ [] → ⊥ = λ e. let none : length (ds ++ last ∷ []) ≡ 0 = ap length e in absurd (omega (arith, length-append ds (last ∷ []))) in
        let value : bytes.decimal (ds ++ last ∷ []) ≡ 10 * bytes.decimal ds + (last - 48) = fold-append (λ m x. 10 * m + (x - 48)) 0 ds (last ∷ []) in
        let front : n / 10 ≡ bytes.decimal ds = d.1 in
        ((all, some), omega arith)

numeral_in : (n : ℕ) → n < LIMIT → Numeral n (decimal n)
numeral_in n h = numeral n (omega arith)

-- the part of a printed duration
nanos_part : List ℕ → Part
nanos_part digits = record { whole = digits; fraction = []; unit = unit.Nanos }

duration_right : (n : ℕ) → n < LIMIT → (ps : List Part) × IsDuration (decimal n ++ codes "ns") ps × AreNanos ps n × (n < LIMIT)
unfolding nanos_part
duration_right n h =
    let d = numeral_in n h in
    let sum : bytes.decimal (decimal n ++ []) * 1 * 10 ^ (0 - 0) + 0 ≡ n * 10 ^ 0 = ap (λ t. bytes.decimal t * 1 * 1 + 0) (append-nil (decimal n)) ∙ (omega (arith, d.1)) in
    (nanos_part (decimal n) ∷ [], record { each = ((d.0, refl), tt); some = (λ e. cc); written = sym (append-nil (decimal n ++ codes "ns")) }, sum, h)

-- each printed token is that token
pub kind_right : (at : ℕ) (k : TokenKind) → Fits k → IsToken at (kind_text k) k
unfolding kind_text IsTokenOf
kind_right at (token.Broken c f) h = absurd h
kind_right at token.Nameless h = absurd h
kind_right at token.Unknown h = absurd h
kind_right at (token.Mark s) h = refl
kind_right at (token.Keyword w) h = (refl, query_word w h)
kind_right at (token.Builtin i) h = refl
kind_right at (token.Named s name) h = (h, record { rest = name_text name; written = refl; named = name_right (at + length (scope_text s)) name (list_all is_name_byte name) refl })
kind_right at (token.Quoted value) h = quoted_whole value
kind_right at (token.Number n) h = let d = numeral_in n h in (d.0, d.1, h)
kind_right at (token.Duration n) h = duration_right n h

-- what stands after a token keeps it apart, unless the token is an opening parenthesis
closed_text : (k : TokenKind) → closes k ≡ true → kind_text k ≡ 41 ∷ []
unfolding kind_text
closed_text (token.Mark sign.CloseParen) h = refl
closed_text (token.Mark _) h = absurd (cc)
closed_text _ h = absurd (cc)

apart : (ks : List TokenKind) → Apart (text_from false ks)
unfolding text_from
apart [] = at_end refl
apart (k ∷ ks) = by_test (closes k) refl
  where
    by_test : (b : Bool) → closes k ≡ b → Apart (gap false b ++ (kind_text k ++ text_from (opens k) ks))
    by_test true e = at_paren (text_from (opens k) ks) (ap (λ t. t ++ text_from (opens k) ks) (closed_text k e))
    by_test false e = at_space (kind_text k ++ text_from (opens k) ks) refl

open_is : (k : TokenKind) → opens k ≡ true → k ≡ token.Mark sign.OpenParen
open_is (token.Mark sign.OpenParen) h = refl
open_is (token.Mark _) h = absurd (cc)
open_is _ h = absurd (cc)

-- tokens of these kinds
abbrev pub AreOf : List TokenKind → List Token → Type 0
AreOf ks ts = map (λ (t : Token). t.kind) ts ≡ ks

-- the text has tokens of just these kinds
abbrev pub Lexes : ℕ → List ℕ → List TokenKind → Type 0
Lexes at text ks = (ts : List Token) × AreTokens at text ts × AreOf ks ts

solid : (at : ℕ) (k : TokenKind) (ks : List TokenKind) (b : Bool) → opens k ≡ b → Fits k → Lexes (at + length (kind_text k)) (text_from b ks) ks → Lexes at (kind_text k ++ text_from b ks) (k ∷ ks)
unfolding kind_text
solid at k ks false e h more = (record { at = at; kind = k } ∷ more.0, printed_token at (kind_text k) (text_from false ks) k more.0 (kind_right at k h) (fits_sound k h) (apart ks) more.1, ap (λ x. k ∷ x) more.2)
solid at k ks true e h more = subst (λ j. Lexes at (kind_text j ++ text_from true ks) (j ∷ ks)) (sym (open_is k e)) (opening (subst (λ j. Lexes (at + length (kind_text j)) (text_from true ks) ks) (open_is k e) more))
  where
    opening : Lexes (at + length (kind_text (token.Mark sign.OpenParen))) (text_from true ks) ks → Lexes at (kind_text (token.Mark sign.OpenParen) ++ text_from true ks) (token.Mark sign.OpenParen ∷ ks)
    opening m = (record { at = at; kind = token.Mark sign.OpenParen } ∷ m.0, printed_paren at (text_from true ks) m.0 m.1, ap (λ x. token.Mark sign.OpenParen ∷ x) m.2)

spaced : (at : ℕ) (tight closing : Bool) (text : List ℕ) (ks : List TokenKind) → ((place : ℕ) → Lexes place text ks) → Lexes at (gap tight closing ++ text) ks
spaced at tight true text ks h = h at
spaced at true false text ks h = h at
spaced at false false text ks h = let m = h (at + 1) in (m.0, printed_space at text m.0 m.1, m.2)

pub lexes : (ks : List TokenKind) → AllByRecursion Fits ks → (tight : Bool) (at : ℕ) → Lexes at (text_from tight ks) ks
unfolding text_from
lexes [] h tight at = ([], printed_end at, refl)
lexes (k ∷ ks) h tight at =
    spaced at tight (closes k) (kind_text k ++ text_from (opens k) ks) (k ∷ ks)
    (λ place. solid place k ks (opens k) refl h.0 (lexes ks h.1 (opens k) (place + length (kind_text k))))

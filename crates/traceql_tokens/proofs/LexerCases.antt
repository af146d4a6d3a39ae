-- What the lexer's functions return, by what they found: one equation for each way.
use Rattle.std.proofs.Common.{◌≡◌, ℕ, ◌+◌, ◌<◌, ◌≤◌, true, cond, eqb, nat_eq, List, [], ◌∷◌, length, drop, take, Option, None, Some, Ok, Err, option_map, find, take_while, unwrap_or, refl, ap, ap₂, ◌∙◌, arith, ne_eqb, eq-eqb, length-append}
use Rattle.std.specs.List.{prefix_len, list_all, starts_with}
use Rattle.std.specs.Option.{option_or}
use Rattle.std.specs.Char.{is_ascii_digit}
use Rattle.std.specs.Str.{IsUtf8, IsCharBoundary}
use Rattle.traceql_tokens.specs.Bytes.{is_name_byte}
use Rattle.traceql_tokens.specs.Fixed.{sign_text, word_text, intrinsic_text, scope_text}
use Rattle.traceql_tokens.specs.StringWalk.{string_at}
use Rattle.traceql_tokens.specs.NumberWalk.{number_at}
use Rattle.traceql_tokens.specs.Walk.{Measured, name_at, attribute_kind, attribute_at, literal_kind, fixed_at, word_at, token_at}
use Rattle.traceql_tokens.specs.declared.tables.TheConstants.{SIGNS, INTRINSICS, SCOPES}
use Rattle.traceql_tokens.specs.declared.fixed.AttributeScope.{AttributeScope}
use Rattle.traceql_tokens.specs.declared.fixed.AttributeScope.TheVariants as scope
use Rattle.traceql_tokens.specs.declared.fixed.Sign.{Sign}
use Rattle.traceql_tokens.specs.declared.fixed.Word.{Word}
use Rattle.traceql_tokens.specs.declared.fixed.Intrinsic.{Intrinsic}
use Rattle.traceql_tokens.specs.declared.kinds.Class.TheVariants as class
use Rattle.traceql_tokens.specs.declared.kinds.Fault.{Fault}
use Rattle.traceql_tokens.specs.declared.kinds.TokenKind.TheVariants as token
use Rattle.traceql_tokens.proofs.Prefixes.{starts_true}
use Rattle.traceql_tokens.proofs.StringLaws.{Value}
use Rattle.traceql_tokens.proofs.NumberLaws.{low_end, is_low}
use Rattle.traceql_tokens.proofs.AttributeLaws.{name_sound}
use Rattle.traceql_tokens.proofs.Ends.{boundary}

pub name_string : (at : ℕ) (bs : List ℕ) (r : Value × ℕ) → string_at at bs ≡ Some r → name_at at bs ≡ r
unfolding name_at
name_string at bs r h = ap (λ o. unwrap_or o (Ok (take_while is_name_byte bs), prefix_len is_name_byte bs)) h

pub name_bare : (at : ℕ) (bs : List ℕ) → string_at at bs ≡ None → name_at at bs ≡ (Ok (take (prefix_len is_name_byte bs) bs), prefix_len is_name_byte bs)
unfolding name_at
name_bare at bs h = ap (λ o. unwrap_or o (Ok (take_while is_name_byte bs), prefix_len is_name_byte bs)) h

pub name_fits : (at : ℕ) (bs : List ℕ) → (name_at at bs).1 ≤ length bs
name_fits at bs = let f = name_sound at bs in omega (arith, f.size, ap length f.parted, length-append f.word f.rest)

pub ruleset name_cases = (name_string, name_bare, name_fits)

pub kind_nameless : (s : AttributeScope) (name : List ℕ) → length name ≡ 0 → attribute_kind s (Ok name) ≡ token.Nameless
unfolding attribute_kind
kind_nameless s [] h = refl
kind_nameless s (b ∷ bs) h = absurd (omega arith)

pub kind_named : (s : AttributeScope) (name : List ℕ) → (length name ≡ 0 → ⊥) → attribute_kind s (Ok name) ≡ token.Named s name
unfolding attribute_kind
kind_named s [] h = absurd (h refl)
kind_named s (b ∷ bs) h = refl

pub kind_faulty : (s : AttributeScope) (f : Fault) → attribute_kind s (Err f) ≡ token.Broken class.Attribute f
unfolding attribute_kind
kind_faulty s f = refl

pub ruleset kind_cases = (kind_nameless, kind_named, kind_faulty)

all_low : (s : AttributeScope) → (list_all is_low (scope_text s) ≡ true) × (0 < length (scope_text s))
all_low scope.Any = (refl, omega arith)
all_low scope.Span = (refl, omega arith)
all_low scope.Resource = (refl, omega arith)
all_low scope.Instrumentation = (refl, omega arith)

pub scope_boundary : (bs : List ℕ) (s : AttributeScope) → IsUtf8 bs → starts_with nat_eq bs (scope_text s) ≡ true → IsCharBoundary bs (length (scope_text s))
scope_boundary bs s u h =
    boundary bs (length (scope_text s)) u (low_end bs (scope_text s) (drop (length (scope_text s)) bs) (starts_true bs (scope_text s) h) (all_low s).0 (all_low s).1)

pub attribute_named : (at n : ℕ) (s : AttributeScope) (bs : List ℕ) (v : Value) → name_at (at + length (scope_text s)) (drop (length (scope_text s)) bs) ≡ (v, n) → attribute_at at s bs ≡ (attribute_kind s v, length (scope_text s) + n)
unfolding attribute_at
attribute_named at n s bs v h = ap (λ (r : Value × ℕ). (attribute_kind s r.0, length (scope_text s) + r.1)) h

pub ruleset attribute_cases = (attribute_named)

pub fixed_sign : (words : List Word) (bs : List ℕ) (s : Sign) → find (λ x. starts_with nat_eq bs (sign_text x)) SIGNS ≡ Some s → fixed_at words bs ≡ Some (token.Mark s, length (sign_text s))
unfolding fixed_at
fixed_sign words bs s h = ap (λ o. option_or (option_map (λ (s : Sign). (token.Mark s, length (sign_text s))) o) (option_or (option_map (λ (w : Word). (token.Keyword w, length (word_text w))) (find (λ x. starts_with nat_eq bs (word_text x)) words)) (option_map (λ (i : Intrinsic). (token.Builtin i, length (intrinsic_text i))) (find (λ x. starts_with nat_eq bs (intrinsic_text x)) INTRINSICS)))) h

pub fixed_word : (words : List Word) (bs : List ℕ) (w : Word) → find (λ x. starts_with nat_eq bs (sign_text x)) SIGNS ≡ None → find (λ x. starts_with nat_eq bs (word_text x)) words ≡ Some w → fixed_at words bs ≡ Some (token.Keyword w, length (word_text w))
unfolding fixed_at
fixed_word words bs w h k =
    ap₂ (λ o p. option_or (option_map (λ (s : Sign). (token.Mark s, length (sign_text s))) o) (option_or (option_map (λ (w : Word). (token.Keyword w, length (word_text w))) p) (option_map (λ (i : Intrinsic). (token.Builtin i, length (intrinsic_text i))) (find (λ x. starts_with nat_eq bs (intrinsic_text x)) INTRINSICS)))) h k

pub fixed_intrinsic : (words : List Word) (bs : List ℕ) → find (λ x. starts_with nat_eq bs (sign_text x)) SIGNS ≡ None → find (λ x. starts_with nat_eq bs (word_text x)) words ≡ None → fixed_at words bs ≡ option_map (λ (i : Intrinsic). (token.Builtin i, length (intrinsic_text i))) (find (λ x. starts_with nat_eq bs (intrinsic_text x)) INTRINSICS)
unfolding fixed_at
fixed_intrinsic words bs h k =
    ap₂ (λ o p. option_or (option_map (λ (s : Sign). (token.Mark s, length (sign_text s))) o) (option_or (option_map (λ (w : Word). (token.Keyword w, length (word_text w))) p) (option_map (λ (i : Intrinsic). (token.Builtin i, length (intrinsic_text i))) (find (λ x. starts_with nat_eq bs (intrinsic_text x)) INTRINSICS)))) h k

pub ruleset fixed_cases = (fixed_sign, fixed_word, fixed_intrinsic)

abbrev else_at : List Word → ℕ → List ℕ → Option Measured
else_at words at bs = cond (eqb (prefix_len is_ascii_digit bs) 0) (word_at words at bs) (Some (number_at bs))

pub token_string : (words : List Word) (at n : ℕ) (bs : List ℕ) (v : Value) → string_at at bs ≡ Some (v, n) → token_at words at bs ≡ Some (literal_kind v, n)
unfolding token_at
token_string words at n bs v h = ap (λ o. option_or (option_map (λ (found : Value × ℕ). (literal_kind found.0, found.1)) o) (else_at words at bs)) h

no_string : (words : List Word) (at : ℕ) (bs : List ℕ) → string_at at bs ≡ None → token_at words at bs ≡ else_at words at bs
unfolding token_at
no_string words at bs h = ap (λ o. option_or (option_map (λ (found : Value × ℕ). (literal_kind found.0, found.1)) o) (else_at words at bs)) h

pub token_number : (words : List Word) (at : ℕ) (bs : List ℕ) → string_at at bs ≡ None → 0 < prefix_len is_ascii_digit bs → token_at words at bs ≡ Some (number_at bs)
token_number words at bs h k = no_string words at bs h ∙ ap (λ b. cond b (word_at words at bs) (Some (number_at bs))) (ne_eqb (prefix_len is_ascii_digit bs) 0 (λ z. absurd (omega arith)))

worded : (words : List Word) (at : ℕ) (bs : List ℕ) → string_at at bs ≡ None → prefix_len is_ascii_digit bs ≡ 0 → token_at words at bs ≡ word_at words at bs
worded words at bs h k = no_string words at bs h ∙ ap (λ b. cond b (word_at words at bs) (Some (number_at bs))) (eq-eqb (prefix_len is_ascii_digit bs) 0 k)

pub token_scope : (words : List Word) (at : ℕ) (bs : List ℕ) (s : AttributeScope) → string_at at bs ≡ None → prefix_len is_ascii_digit bs ≡ 0 → find (λ x. starts_with nat_eq bs (scope_text x)) SCOPES ≡ Some s → token_at words at bs ≡ Some (attribute_at at s bs)
unfolding word_at
token_scope words at bs s h k f = worded words at bs h k ∙ ap (λ o. option_or (option_map (λ s. attribute_at at s bs) o) (fixed_at words bs)) f

pub token_fixed : (words : List Word) (at : ℕ) (bs : List ℕ) → string_at at bs ≡ None → prefix_len is_ascii_digit bs ≡ 0 → find (λ x. starts_with nat_eq bs (scope_text x)) SCOPES ≡ None → token_at words at bs ≡ fixed_at words bs
unfolding word_at
token_fixed words at bs h k f = worded words at bs h k ∙ ap (λ o. option_or (option_map (λ s. attribute_at at s bs) o) (fixed_at words bs)) f

pub ruleset token_cases = (token_string, token_number, token_scope, token_fixed)

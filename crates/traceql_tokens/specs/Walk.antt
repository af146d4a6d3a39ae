-- Private mechanism. The token that bytes begin with, by its first byte.
use Rattle.std.specs.Prelude.{◌≡◌, ℕ, ◌+◌, ◌==◌, nat_eq, Bool, true, not, ◌&&◌, List, [], ◌∷◌, length, drop, Option, Some, Result, Ok, Err, unwrap_or, if◌then◌else◌}
use Rattle.std.specs.Option.{option_map, option_or}
use Rattle.std.specs.List.{prefix_len, list_all, take_while, find, starts_with}
use Rattle.std.specs.Char.{is_ascii_digit}
use Rattle.traceql_tokens.specs.Bytes.{is_name_byte}
use Rattle.traceql_tokens.specs.Fixed.{sign_text, word_text, intrinsic_text, scope_text}
use Rattle.traceql_tokens.specs.StringWalk.{string_at}
use Rattle.traceql_tokens.specs.NumberWalk.{number_at}
use Rattle.traceql_tokens.specs.declared.tables.TheConstants.{SIGNS, INTRINSICS, SCOPES}
use Rattle.traceql_tokens.specs.declared.fixed.AttributeScope.{AttributeScope}
use Rattle.traceql_tokens.specs.declared.fixed.Word.{Word}
use Rattle.traceql_tokens.specs.declared.kinds.Class.TheVariants as class
use Rattle.traceql_tokens.specs.declared.kinds.Fault.{Fault}
use Rattle.traceql_tokens.specs.declared.kinds.TokenKind.{TokenKind}
use Rattle.traceql_tokens.specs.declared.kinds.TokenKind.TheVariants as token

-- a token and how many bytes it has
abbrev pub Measured : Type 0
Measured = TokenKind × ℕ

-- the name that the bytes begin with, and how many bytes it has
unfoldable pub name_at : ℕ → List ℕ → Result (List ℕ) Fault × ℕ
name_at at bytes = unwrap_or (string_at at bytes) (Ok (take_while is_name_byte bytes), prefix_len is_name_byte bytes)

-- the token of an attribute
unfoldable pub attribute_kind : AttributeScope → Result (List ℕ) Fault → TokenKind
attribute_kind scope (Ok []) = token.Nameless
attribute_kind scope (Ok (b ∷ bs)) = token.Named scope (b ∷ bs)
attribute_kind scope (Err f) = token.Broken class.Attribute f

-- the attribute of this scope that the bytes begin with
unfoldable pub attribute_at : ℕ → AttributeScope → List ℕ → Measured
attribute_at at scope bytes =
    let n = length (scope_text scope) in
    let found = name_at (at + n) (drop n bytes) in
    (attribute_kind scope found.0, n + found.1)

-- a string as a token
unfoldable pub literal_kind : Result (List ℕ) Fault → TokenKind
literal_kind (Ok value) = token.Quoted value
literal_kind (Err f) = token.Broken class.Quoted f

-- no entry begins a later one
abbrev pub in_order : {X : Type 0} → (X → List ℕ) → List X → Bool
in_order f [] = true
in_order f (x ∷ xs) = list_all (λ y. not (starts_with nat_eq (f y) (f x))) xs && in_order f xs

-- the words of a language, a longer one before each that it begins with
abbrev pub IsTable : List Word → Type 0
IsTable words = in_order word_text words ≡ true

-- the sign, the word or the intrinsic that the bytes begin with
unfoldable pub fixed_at : List Word → List ℕ → Option Measured
fixed_at words bytes =
    option_or (option_map (λ s. (token.Mark s, length (sign_text s))) (find (λ x. starts_with nat_eq bytes (sign_text x)) SIGNS))
    (option_or (option_map (λ w. (token.Keyword w, length (word_text w))) (find (λ x. starts_with nat_eq bytes (word_text x)) words))
    (option_map (λ i. (token.Builtin i, length (intrinsic_text i))) (find (λ x. starts_with nat_eq bytes (intrinsic_text x)) INTRINSICS)))

-- the attribute, or the token of fixed text, that the bytes begin with
unfoldable pub word_at : List Word → ℕ → List ℕ → Option Measured
word_at words at bytes = option_or (option_map (λ s. attribute_at at s bytes) (find (λ x. starts_with nat_eq bytes (scope_text x)) SCOPES)) (fixed_at words bytes)

-- the longest token that the bytes begin with
unfoldable pub token_at : List Word → ℕ → List ℕ → Option Measured
token_at words at bytes =
    option_or (option_map (λ found. (literal_kind found.0, found.1)) (string_at at bytes))
    (if prefix_len is_ascii_digit bytes == 0 then word_at words at bytes else Some (number_at bytes))

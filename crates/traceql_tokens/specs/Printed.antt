-- What a printer rests on: tokens that are written one after another, kept apart by spaces, are the tokens of the text.
use Rattle.std.specs.Prelude.{◌≡◌, ℕ, ◌+◌, List, [], ◌∷◌, ◌++◌, length}
use Rattle.traceql_tokens.specs.Tokens.{IsToken, AreTokens}
use Rattle.traceql_tokens.specs.declared.fixed.Sign.TheVariants as sign
use Rattle.traceql_tokens.specs.declared.kinds.Token.{Token}
use Rattle.traceql_tokens.specs.declared.kinds.TokenKind.{TokenKind}
use Rattle.traceql_tokens.specs.declared.kinds.TokenKind.TheVariants as token

-- what keeps a token apart from the text after it: the end, a space or a closing parenthesis
pub data Apart (rest : List ℕ) : Type 0 where
  at_end : rest ≡ [] → Apart rest
  at_space : (tl : List ℕ) → rest ≡ 32 ∷ tl → Apart rest
  at_paren : (tl : List ℕ) → rest ≡ 41 ∷ tl → Apart rest

-- a token that has no fault and may stand in a query
abbrev pub IsSound : TokenKind → Type 0
IsSound (token.Broken c f) = ⊥
IsSound token.Nameless = ⊥
IsSound token.Unknown = ⊥
IsSound (token.Mark s) = Unit {0}
IsSound (token.Keyword w) = Unit {0}
IsSound (token.Builtin i) = Unit {0}
IsSound (token.Named s name) = Unit {0}
IsSound (token.Quoted value) = Unit {0}
IsSound (token.Number n) = Unit {0}
IsSound (token.Duration n) = Unit {0}

-- a token before what keeps it apart, and then the tokens of the rest
abbrev pub ReadsToken : Type 0
ReadsToken = (at : ℕ) (word rest : List ℕ) (k : TokenKind) (ts : List Token) → IsToken at word k → IsSound k → Apart rest → AreTokens (at + length word) rest ts → AreTokens at (word ++ rest) (record { at = at; kind = k } ∷ ts)

-- an opening parenthesis before anything
abbrev pub ReadsParen : Type 0
ReadsParen = (at : ℕ) (rest : List ℕ) (ts : List Token) → AreTokens (at + 1) rest ts → AreTokens at (40 ∷ rest) (record { at = at; kind = token.Mark sign.OpenParen } ∷ ts)

-- a space before anything
abbrev pub ReadsSpace : Type 0
ReadsSpace = (at : ℕ) (text : List ℕ) (ts : List Token) → AreTokens (at + 1) text ts → AreTokens at (32 ∷ text) ts

-- the empty text
abbrev pub ReadsEnd : Type 0
ReadsEnd = (at : ℕ) → AreTokens at [] []

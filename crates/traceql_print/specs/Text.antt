-- How tokens are printed, and where a space stands between them.
use Rattle.std.specs.Prelude.{◌≢◌, ℕ, ◌==◌, Bool, true, false, List, [], ◌∷◌, ◌++◌, codes, map, Option, Some, None, if◌then◌else◌}
use Rattle.std.specs.List.{list_all}
use Rattle.std.specs.Fmt.{decimal}
use Rattle.traceql_tokens.specs.Bytes.{is_name_byte}
use Rattle.traceql_tokens.specs.Fixed.{sign_text, word_text, intrinsic_text, scope_text}
use Rattle.traceql_tokens.specs.Strings.{Piece, Plain, Escape, pieces_text}
use Rattle.traceql_tokens.specs.declared.fixed.Sign.TheVariants as sign
use Rattle.traceql_tokens.specs.declared.kinds.TokenKind.{TokenKind}
use Rattle.traceql_tokens.specs.declared.kinds.TokenKind.TheVariants as token
use Rattle.traceql_syntax.specs.declared.field.Field.{Field}
use Rattle.traceql_syntax.specs.declared.field.Field.TheVariants as field
use Rattle.traceql_syntax.specs.Trees.{QueryTree}
use Rattle.traceql_print.specs.Signs.{field_kind}
use Rattle.traceql_print.specs.Kinds.{query_kinds}

-- the letter after the backslash where a byte of a string is written by an escape: the quote, the backslash, a line
-- feed, a carriage return and a tab
abbrev pub escape_letter : ℕ → Option ℕ
escape_letter b =
    if b == 34 then Some 34
    else (if b == 92 then Some 92
    else (if b == 10 then Some 110
    else (if b == 13 then Some 114
    else (if b == 9 then Some 116 else None))))

abbrev pub piece_or : ℕ → Option ℕ → Piece
piece_or b None = Plain b
piece_or b (Some letter) = Escape letter

-- how a byte of a string is written
abbrev pub piece_of : ℕ → Piece
piece_of b = piece_or b (escape_letter b)

-- how the bytes of a string are written between its quotes
unfoldable pub escaped_text : List ℕ → List ℕ
escaped_text value = pieces_text (map piece_of value)

abbrev pub quoted_text : List ℕ → List ℕ
quoted_text value = 34 ∷ (escaped_text value ++ 34 ∷ [])

-- an attribute's name: as a string where it has a byte that ends a name
abbrev pub name_text : List ℕ → List ℕ
name_text name = if list_all is_name_byte name then name else quoted_text name

-- a token; those with a fault are in no query
unfoldable pub kind_text : TokenKind → List ℕ
kind_text (token.Mark s) = sign_text s
kind_text (token.Keyword w) = word_text w
kind_text (token.Builtin i) = intrinsic_text i
kind_text (token.Named scope name) = scope_text scope ++ name_text name
kind_text (token.Quoted value) = quoted_text value
kind_text (token.Number n) = decimal n
kind_text (token.Duration n) = decimal n ++ codes "ns"
kind_text _ = []

abbrev pub opens : TokenKind → Bool
opens (token.Mark sign.OpenParen) = true
opens _ = false

abbrev pub closes : TokenKind → Bool
closes (token.Mark sign.CloseParen) = true
closes _ = false

-- what stands before a token: a space, but nothing where the text begins, after `(` and before `)`
abbrev pub gap : (tight closing : Bool) → List ℕ
gap tight closing = if closing then [] else (if tight then [] else codes " ")

-- the tokens with what stands before each of them; `tight` says that the text begins, or that `(` stands before
unfoldable pub text_from : Bool → List TokenKind → List ℕ
text_from tight [] = []
text_from tight (k ∷ ks) = gap tight (closes k) ++ (kind_text k ++ text_from (opens k) ks)

abbrev pub text_of : List TokenKind → List ℕ
text_of ks = text_from true ks

-- the printed query, and the printed field
abbrev pub query_text : QueryTree → List ℕ
query_text q = text_of (query_kinds q)

abbrev pub field_text : Field → List ℕ
field_text f = kind_text (field_kind f)

-- a field that a text can have: an attribute's name isn't empty
abbrev pub IsNamed : Field → Type 0
IsNamed (field.Attribute scope name) = name ≢ []
IsNamed (field.Intrinsic i) = Unit {0}

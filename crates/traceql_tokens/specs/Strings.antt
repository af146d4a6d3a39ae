-- String literals. Between double quotes a backslash and the byte after it are one piece, and every other byte is one;
-- between backquotes each byte stands for itself.
use Rattle.std.specs.Prelude.{◌≡◌, ℕ, ◌+◌, ◌==◌, Bool, true, not, ◌&&◌, List, [], ◌∷◌, ◌++◌, length, map, Option, Some, None, Result, Ok, Err, if◌then◌else◌}
use Rattle.std.specs.List.{flat_map, list_all, AllByRecursion}
use Rattle.traceql_tokens.specs.declared.kinds.Fault.{Fault}
use Rattle.traceql_tokens.specs.declared.kinds.Fault.TheVariants as fault

-- a piece of a string between double quotes
pub data Piece : Type 0 where
  -- a byte that stands for itself
  Plain : ℕ → Piece
  -- a backslash and a byte
  Escape : ℕ → Piece

-- a byte that is a piece by itself: neither the quote nor the backslash
abbrev pub is_plain : ℕ → Bool
is_plain b = not (b == 34) && not (b == 92)

-- how a piece is written
abbrev pub piece_text : Piece → List ℕ
piece_text (Plain b) = b ∷ []
piece_text (Escape c) = 92 ∷ c ∷ []

-- how pieces are written, one after another
abbrev pub pieces_text : List Piece → List ℕ
pieces_text ps = flat_map piece_text ps

-- a byte that stands for itself is neither the quote nor the backslash
abbrev pub IsPiece : Piece → Type 0
IsPiece (Plain b) = is_plain b ≡ true
IsPiece (Escape c) = Unit {0}

abbrev pub ArePieces : List Piece → Type 0
ArePieces ps = AllByRecursion IsPiece ps

-- the byte that an escape stands for: \" \\ \n \r \t
abbrev pub escaped : ℕ → Option ℕ
escaped c =
    if c == 34 then Some 34
    else (if c == 92 then Some 92
    else (if c == 110 then Some 10
    else (if c == 114 then Some 13
    else (if c == 116 then Some 9 else None))))

-- what a piece stands for
abbrev pub meaning : Piece → Option ℕ
meaning (Plain b) = Some b
meaning (Escape c) = escaped c

-- the pieces stand for these bytes, and each escape is a known one
abbrev pub Means : List Piece → List ℕ → Type 0
Means ps value = map meaning ps ≡ map Some value

-- no backquote in it
abbrev pub IsRaw : List ℕ → Type 0
IsRaw body = list_all (λ b. not (b == 96)) body ≡ true

-- a string that ends, and what it stands for
pub data IsWhole (text value : List ℕ) : Type 0 where
  whole_quoted : (ps : List Piece) → ArePieces ps → Means ps value → text ≡ 34 ∷ (pieces_text ps ++ 34 ∷ []) → IsWhole text value
  whole_raw : IsRaw value → text ≡ 96 ∷ (value ++ 96 ∷ []) → IsWhole text value

-- a string that doesn't end: a quote, and no closing one after it
pub data IsUnended (text : List ℕ) : Type 0 where
  open_quoted : (ps : List Piece) → ArePieces ps → text ≡ 34 ∷ pieces_text ps → IsUnended text
  open_backslash : (ps : List Piece) → ArePieces ps → text ≡ 34 ∷ (pieces_text ps ++ 92 ∷ []) → IsUnended text
  open_raw : (body : List ℕ) → IsRaw body → text ≡ 96 ∷ body → IsUnended text

-- a string that ends, whose first unknown escape has its backslash so many bytes after the string's first one
pub record HasUnknown (text : List ℕ) (offset : ℕ) : Type 0 where
  pub front : List Piece
  pub value : List ℕ
  pub byte : ℕ
  pub back : List Piece
  pub front_pieces : ArePieces front
  pub known : Means front value
  pub unknown : escaped byte ≡ None
  pub back_pieces : ArePieces back
  pub written : text ≡ 34 ∷ (pieces_text front ++ (pieces_text (Escape byte ∷ back) ++ 34 ∷ []))
  pub place : offset ≡ 1 + length (pieces_text front)

-- the text is a string literal that begins at this place, and this is its value or its fault
abbrev pub IsString : ℕ → List ℕ → Result (List ℕ) Fault → Type 0
IsString at text (Ok value) = IsWhole text value
IsString at text (Err (fault.Unended place)) = (place ≡ at) × IsUnended text
IsString at text (Err (fault.UnknownEscape place)) = (offset : ℕ) × (place ≡ at + offset) × HasUnknown text offset
IsString at text (Err fault.NumberRange) = ⊥
IsString at text (Err fault.FractionLiteral) = ⊥

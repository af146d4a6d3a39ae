-- The lines of a text, defined over the whole text.
use Rattle.std.specs.Prelude.{ℕ, ◌-◌, ◌==◌, Bool, List, [], ◌∷◌, length, map, take, slice_index, if◌then◌else◌}
use Rattle.span_types.specs.declared.limits.TheConstants.{MOST_LINE_BYTES}

-- How many bytes a line may have.
abbrev pub line_limit : ℕ
line_limit = MOST_LINE_BYTES

-- How many bytes a reader takes from its source in all.
abbrev pub taken_limit : ℕ
taken_limit = 1099511627776

-- The last byte is a carriage return, byte 13.
abbrev pub ends_in_return : List ℕ → Bool
ends_in_return bytes = slice_index bytes (length bytes - 1) == 13

-- The bytes without a carriage return at their end, of which at most one goes.
abbrev pub without_return : List ℕ → List ℕ
without_return bytes = if ends_in_return bytes then take (length bytes - 1) bytes else bytes

-- The first piece begins with this byte; where there is no piece, it is one of its own.
abbrev pub with_first : ℕ → List (List ℕ) → List (List ℕ)
with_first byte [] = (byte ∷ []) ∷ []
with_first byte (piece ∷ pieces) = (byte ∷ piece) ∷ pieces

-- The pieces of a text that its line feeds, each byte 10, end. What follows the last line feed is a piece too, where it
-- isn't empty.
abbrev pub pieces : List ℕ → List (List ℕ)
pieces [] = []
pieces (byte ∷ text) = if byte == 10 then [] ∷ pieces text else with_first byte (pieces text)

-- The lines of a text: its pieces, each without a carriage return at its end.
abbrev pub lines : List ℕ → List (List ℕ)
lines text = map without_return (pieces text)

-- Private mechanism. A number or a duration read from the left.
use Rattle.std.specs.Prelude.{ℕ, ◌+◌, ◌*◌, ◌/◌, ◌%◌, ◌^◌, ◌==◌, zero, suc, nat_lt, nat_le, nat_eq, List, [], ◌∷◌, length, drop, Option, Some, None, unwrap_or, slice_index, if◌then◌else◌}
use Rattle.std.specs.Option.{option_map}
use Rattle.std.specs.List.{prefix_len, take_while, find, flat_map, starts_with}
use Rattle.std.specs.Char.{is_ascii_digit}
use Rattle.traceql_tokens.specs.Bytes.{decimal}
use Rattle.traceql_tokens.specs.Fixed.{unit_text}
use Rattle.traceql_tokens.specs.Numbers.{LIMIT, Part, part_text, fraction_text, places, scaled}
use Rattle.traceql_tokens.specs.declared.tables.TheConstants.{UNITS}
use Rattle.traceql_tokens.specs.declared.units.TimeUnit.{TimeUnit}
use Rattle.traceql_tokens.specs.declared.kinds.Class.TheVariants as class
use Rattle.traceql_tokens.specs.declared.kinds.Fault.TheVariants as fault
use Rattle.traceql_tokens.specs.declared.kinds.TokenKind.{TokenKind}
use Rattle.traceql_tokens.specs.declared.kinds.TokenKind.TheVariants as token

-- the longest unit that the bytes begin with
abbrev pub unit_at : List ℕ → Option TimeUnit
unit_at bytes = find (λ u. starts_with nat_eq bytes (unit_text u)) UNITS

-- the digits after a dot that the bytes begin with, or none
unfoldable pub fraction_at : List ℕ → List ℕ
fraction_at bytes = if slice_index bytes 0 == 46 then take_while is_ascii_digit (drop 1 bytes) else []

-- the digits that the bytes begin with
abbrev pub whole_at : List ℕ → List ℕ
whole_at bytes = take_while is_ascii_digit bytes

-- what stands after the digits, and after the fraction
abbrev pub after_whole : List ℕ → List ℕ
after_whole bytes = drop (prefix_len is_ascii_digit bytes) bytes

abbrev pub after_fraction : List ℕ → List ℕ
after_fraction bytes = drop (length (fraction_text (fraction_at bytes))) bytes

-- the part of a duration that the bytes begin with
unfoldable pub part_at : List ℕ → Option Part
part_at bytes =
    if prefix_len is_ascii_digit bytes == 0 then None
    else option_map (λ u. record { whole = whole_at bytes; fraction = fraction_at (after_whole bytes); unit = u }) (unit_at (after_fraction (after_whole bytes)))

abbrev pub part_len : Part → ℕ
part_len p = length (part_text p)

-- a part and the parts after it
abbrev pub parts_from : (List ℕ → List Part) → List ℕ → Option Part → List Part
parts_from more bytes None = []
parts_from more bytes (Some p) = p ∷ more (drop (part_len p) bytes)

-- the parts that the bytes begin with, one directly after another, at most n
unfoldable pub parts_within : ℕ → List ℕ → List Part
parts_within zero bytes = []
parts_within (suc n) bytes = parts_from (parts_within n) bytes (part_at bytes)

-- all parts
abbrev pub parts : List ℕ → List Part
parts bytes = parts_within (length bytes) bytes

-- the token of a whole number
unfoldable pub number_kind : ℕ → TokenKind
number_kind n = if nat_lt n LIMIT then token.Number n else token.Broken class.Number fault.NumberRange

-- the token of parts that are whole / 10 ^ k nanoseconds
unfoldable pub duration_kind : ℕ → ℕ → TokenKind
duration_kind k whole =
    if nat_le (LIMIT * 10 ^ k) whole then token.Broken class.Duration fault.NumberRange
    else (if whole % 10 ^ k == 0 then token.Duration (whole / 10 ^ k) else token.Broken class.Duration fault.FractionLiteral)

-- the token of parts, and how many bytes it has; no parts are no token
unfoldable pub duration_of : List Part → Option (TokenKind × ℕ)
duration_of [] = None
duration_of (p ∷ ps) = Some (duration_kind (places (p ∷ ps)) (scaled (places (p ∷ ps)) (p ∷ ps)), length (flat_map part_text (p ∷ ps)))

-- the duration that the bytes begin with, and how many bytes it has
unfoldable pub duration_at : List ℕ → Option (TokenKind × ℕ)
duration_at bytes = duration_of (parts bytes)

-- the token of digits and of those after a dot
abbrev pub plain_of : List ℕ → List ℕ → TokenKind
plain_of whole [] = number_kind (decimal whole)
plain_of whole (d ∷ ds) = token.Broken class.Number fault.FractionLiteral

-- the number or the bare decimal that the bytes begin with, and how many bytes it has
unfoldable pub plain_at : List ℕ → TokenKind × ℕ
plain_at bytes =
    let fraction = fraction_at (after_whole bytes) in
    (plain_of (whole_at bytes) fraction, prefix_len is_ascii_digit bytes + length (fraction_text fraction))

-- the number, the bare decimal or the duration that the bytes begin with, and how many bytes it has
unfoldable pub number_at : List ℕ → TokenKind × ℕ
number_at bytes = unwrap_or (duration_at bytes) (plain_at bytes)

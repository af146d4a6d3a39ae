-- The one encoding of each value.
use Rattle.std.specs.Prelude.{ℕ, zero, suc, ◌+◌, ◌*◌, ◌/◌, ◌%◌, ℤ, pos, negsuc, List, [], ◌∷◌, ◌++◌, length, nat_lt, if◌then◌else◌}
use Rattle.std.specs.Int.{w32, w64, to_le_bytes}

-- a number of 4 bytes and one of 8 bytes, the lowest byte first
abbrev pub fixed32_bytes : ℕ → List ℕ
fixed32_bytes n = to_le_bytes w32 n

abbrev pub fixed64_bytes : ℕ → List ℕ
fixed64_bytes n = to_le_bytes w64 n

-- A number in groups of seven bits, the lowest group first. A group that another one follows has 128 added.
-- At most so many groups stand before the last one.
unfoldable pub groups : ℕ → ℕ → List ℕ
groups zero n = n ∷ []
groups (suc more) n = if nat_lt n 128 then n ∷ [] else (n % 128 + 128) ∷ groups more (n / 128)

-- unsigned LEB128 in its shortest form: ten groups hold 64 bits
unfoldable pub var_bytes : ℕ → List ℕ
var_bytes n = groups 9 n

-- 0, -1, 1, -2, 2 and so on are numbered from 0. Here `negsuc n` is -(n + 1).
abbrev pub zigzag_number : ℤ → ℕ
zigzag_number (pos n) = 2 * n
zigzag_number (negsuc n) = 2 * n + 1

abbrev pub zigzag_bytes : ℤ → List ℕ
zigzag_bytes z = var_bytes (zigzag_number z)

-- a text: how many bytes it has, and its bytes
abbrev pub text_bytes : List ℕ → List ℕ
text_bytes text = var_bytes (length text) ++ text

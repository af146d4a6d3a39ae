-- Which bytes of a slot count: a list's fixed fields say how many it has, and what stands after them doesn't matter.
use Rattle.std.specs.Prelude.{ℕ, ◌+◌, ◌*◌, Bool, ◌&&◌, nat_le, List, length, take, drop}
use Rattle.std.specs.Int.{w32, from_le_bytes}
use Rattle.block_list.specs.Reading.{is_vacant}

-- the number in the four bytes at an offset
abbrev pub count_in : ℕ → List ℕ → ℕ
count_in at bytes = from_le_bytes w32 (take 4 (drop at bytes))

-- how many bytes a list takes whose fixed fields these bytes begin with
abbrev pub size_in : List ℕ → ℕ
size_in bytes = 30 + (12 * count_in 18 bytes + (9 * count_in 22 bytes + 4 * count_in 26 bytes))

-- the bytes that count
abbrev pub counting : List ℕ → List ℕ
counting bytes = take (size_in bytes) bytes

-- the slot is vacant, though long enough for a list
abbrev pub is_to_clear : List ℕ → Bool
is_to_clear bytes = is_vacant bytes && nat_le 30 (length bytes)

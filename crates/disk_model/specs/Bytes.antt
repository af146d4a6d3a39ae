-- What a write and a cut make of a file's bytes, done or half done.
use Rattle.std.specs.Prelude.{◌≡◌, ◌⊎◌, ℕ, zero, suc, ◌+◌, ◌-◌, ◌<◌, ◌≤◌, min, max, List, [], ◌∷◌, ◌++◌, length, take, drop, replicate, slice_index}

-- The bytes with these ones from this offset on. A gap before them becomes zeros. To write nothing changes nothing.
abbrev pub overwritten : List ℕ → ℕ → List ℕ → List ℕ
overwritten old at [] = old
overwritten old at (byte ∷ bytes) =
    take at (old ++ replicate (at - length old) 0) ++ (byte ∷ bytes) ++ drop (at + length (byte ∷ bytes)) old

-- where a write of that many bytes ends, and 0 if it writes nothing
abbrev pub reach : ℕ → ℕ → ℕ
reach at zero = 0
reach at (suc count) = at + suc count

-- What is left of a file after a write of that many bytes from this offset on, which a crash or a fault may have cut
-- short: the range and what lies past the old end may hold anything, and each other byte stays.
pub record Torn (at count : ℕ) (old new : List ℕ) : Type 0 where
  pub no_shorter : length old ≤ length new
  pub no_longer : length new ≤ max (length old) (reach at count)
  pub same : (offset : ℕ) → offset < length old → (offset < at) ⊎ (at + count ≤ offset) → slice_index new offset ≡ slice_index old offset

-- What is left of a file after a cut to this length, which a crash or a fault may have cut short: it has a length from
-- the lesser of the two lengths to the greater one, and the bytes below both stay.
pub record HalfCut (len : ℕ) (old new : List ℕ) : Type 0 where
  pub no_shorter : min (length old) len ≤ length new
  pub no_longer : length new ≤ max (length old) len
  pub same : (offset : ℕ) → offset < len → offset < length old → offset < length new → slice_index new offset ≡ slice_index old offset

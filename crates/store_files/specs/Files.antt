-- Files by their numbers.
use Rattle.std.specs.Prelude.{◌≡◌, ℕ, ◌-◌, ◌<◌, min, List, [], ◌++◌, length, take, drop}
use Rattle.disk_model.specs.Images.{Image, bytes_of}
use Rattle.disk_model.specs.Crash.{OnlyBytes}

-- each file below this number has the same bytes in both
abbrev pub SameBelow : ℕ → Image → Image → Type 0
SameBelow limit old new = (file : ℕ) → file < limit → bytes_of new file ≡ bytes_of old file

-- the file is empty, and so it is in each image that a crash may leave
abbrev pub IsEmptied : Image → (Image → Type 0) → ℕ → Type 0
IsEmptied held may_leave file = (bytes_of held file ≡ []) × OnlyBytes file [] may_leave

-- what a read of a file from there on leaves in a buffer: its bytes up to the end of the file or of the buffer, and what stood after
-- them there
abbrev pub read_over : List ℕ → ℕ → List ℕ → List ℕ
read_over bytes at buf =
    take (min (length buf) (length bytes - at)) (drop at bytes) ++ drop (min (length buf) (length bytes - at)) buf

-- What a disk holds, or what a crash leaves of it: files with their bytes.
use Rattle.std.specs.Prelude.{◌≡◌, ◌≢◌, ℕ, List, [], ◌∷◌, if◌then◌else◌, ◌==◌}

-- a finite list of files with their bytes
abbrev pub Image : Type 0
Image = List (ℕ × List ℕ)

-- the bytes of a file: those that stand first under its number; a file that isn't named is empty
abbrev pub bytes_of : Image → ℕ → List ℕ
bytes_of [] file = []
bytes_of (entry ∷ image) file = if entry.0 == file then entry.1 else bytes_of image file

-- the two have the same bytes in every file but this one
abbrev pub Besides : ℕ → Image → Image → Type 0
Besides file old new = (other : ℕ) → other ≢ file → bytes_of new other ≡ bytes_of old other

-- the two have the same bytes in every file
abbrev pub SameBytes : Image → Image → Type 0
SameBytes old new = (file : ℕ) → bytes_of new file ≡ bytes_of old file

-- one file changes so, and every other file stays
pub record OnFile (file : ℕ) (step : List ℕ → List ℕ → Type 0) (old new : Image) : Type 0 where
  pub besides : Besides file old new
  pub changed : step (bytes_of old file) (bytes_of new file)

-- Which numbers of pins are taken, and which files the pins name.
use Rattle.std.specs.Prelude.{ℕ, Bool, List, [], Option, None, Some, false, true, slice_index_or}

-- the files that a pin names, by its number; numbers that no pin has, those after the end of the list too, have none
abbrev pub pin_at : ℕ → List (Option (List ℕ)) → Option (List ℕ)
pin_at number pins = slice_index_or pins number None

abbrev pub is_there : Option (List ℕ) → Bool
is_there None = false
is_there (Some files) = true

abbrev pub files_in : Option (List ℕ) → List ℕ
files_in None = []
files_in (Some files) = files

-- whether a pin has the number
abbrev pub is_taken : ℕ → List (Option (List ℕ)) → Bool
is_taken number pins = is_there (pin_at number pins)

-- the files of the pin with this number, and none where there is no such pin
abbrev pub files_at : ℕ → List (Option (List ℕ)) → List ℕ
files_at number pins = files_in (pin_at number pins)

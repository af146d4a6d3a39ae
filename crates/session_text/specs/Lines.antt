-- The parts of a line, which are separated by one space each.
use Rattle.std.specs.Prelude.{ℕ, ◌==◌, List, [], ◌∷◌, if◌then◌else◌, Option, Some, None}

-- The first part: what stands before the first space, all where there is none.
abbrev pub first_part : List ℕ → List ℕ
first_part [] = []
first_part (b ∷ bs) = if b == 32 then [] else b ∷ first_part bs

-- What follows the first space; nothing where there is none.
abbrev pub other_parts : List ℕ → Option (List ℕ)
other_parts [] = None
other_parts (b ∷ bs) = if b == 32 then Some bs else other_parts bs

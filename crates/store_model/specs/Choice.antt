-- Which blocks a compaction takes.
use Rattle.std.specs.Prelude.{ℕ, ◌+◌, ◌-◌, ◌==◌, ◌&&◌, zero, suc, nat_le, Bool, if◌then◌else◌, List, [], ◌∷◌, not, filter}
use Rattle.store_model.specs.State.{Block, is_among}

abbrev pub most_rows : ℕ
most_rows = 1048576

-- the block is of the level, and so many rows have room for its own
abbrev pub fits : ℕ → ℕ → Block → Bool
fits level room block = (block.level == level) && nat_le (block.size) room

-- of these blocks each of the level that fits with those before it, so many at most
abbrev pub joined : ℕ → ℕ → ℕ → List Block → List Block
joined level room zero blocks = []
joined level room (suc n) [] = []
joined level room (suc n) (block ∷ blocks) =
    if fits level room block then block ∷ joined level (room - block.size) n blocks else joined level room (suc n) blocks

-- the first block with what is joined to it, where something is
abbrev pub begun_with : Block → List Block → List Block → List Block
begun_with block [] others = others
begun_with block (x ∷ xs) others = block ∷ x ∷ xs

-- the choice at one level
abbrev pub chosen_at : ℕ → List Block → List Block
chosen_at level [] = []
chosen_at level (block ∷ blocks) =
    if fits level most_rows block
    then begun_with block (joined level (most_rows - block.size) 3 blocks) (chosen_at level blocks)
    else chosen_at level blocks

abbrev pub or_else : List Block → List Block → List Block
or_else [] others = others
or_else (x ∷ xs) others = x ∷ xs

-- the choice at the lowest of so many levels that has one
abbrev pub chosen_from : ℕ → ℕ → List Block → List Block
chosen_from level zero blocks = []
chosen_from level (suc n) blocks = or_else (chosen_at level blocks) (chosen_from (level + 1) n blocks)

-- the blocks that a compaction takes now: none, or at least two
abbrev pub choice : List Block → List Block
choice blocks = chosen_from 0 63 blocks

-- the level of a chosen block
abbrev pub level_of : List Block → ℕ
level_of [] = 0
level_of (block ∷ blocks) = block.level

-- the blocks in these files, and the others
abbrev pub in_files : List ℕ → List Block → List Block
in_files files blocks = filter (λ block. is_among block.file files) blocks

abbrev pub outside_files : List ℕ → List Block → List Block
outside_files files blocks = filter (λ block. not (is_among block.file files)) blocks

-- Positions of blocks that fit together. (Private: no contract of a public call cites it.)
use Rattle.std.specs.Prelude.{◌≡◌, ℕ, ◌+◌, ◌-◌, ◌==◌, ◌&&◌, zero, suc, min, nat_le, if◌then◌else◌, Bool, List, [], ◌∷◌, drop, Option, None, Some}
use Rattle.block_list.specs.declared.body.BlockRef.{BlockRef}
use Rattle.store_model.specs.Choice.{most_rows}
use Rattle.store_state.specs.declared.choice.Pairing.{Pairing}

-- how many rows the smallest block of the level has: too many where there is none
abbrev pub smallest : ℕ → List BlockRef → ℕ
smallest level [] = most_rows + 1
smallest level (block ∷ blocks) =
    if block.level == level then min (smallest level blocks) block.rows else smallest level blocks

-- whether the block is of the level and fits with one of those
abbrev pub has_partner : ℕ → BlockRef → List BlockRef → Bool
has_partner level block blocks = (block.level == level) && nat_le (block.rows + smallest level blocks) most_rows

-- the position of the first block that fits with a later one, counted on from a number
abbrev pub pair_at : ℕ → ℕ → List BlockRef → Option ℕ
pair_at level at [] = None
pair_at level at (block ∷ blocks) =
    if has_partner level block blocks then Some at else pair_at level (at + 1) blocks

-- the positions of those that fit with what was chosen before them, so many at most
abbrev pub joined_at : ℕ → ℕ → ℕ → ℕ → List BlockRef → List ℕ
joined_at level room zero at blocks = []
joined_at level room (suc n) at [] = []
joined_at level room (suc n) at (block ∷ blocks) =
    if (block.level == level) && nat_le block.rows room
    then at ∷ joined_at level (room - block.rows) n (at + 1) blocks
    else joined_at level room (suc n) (at + 1) blocks

-- a block with those that are joined to it
abbrev pub with_partners : ℕ → ℕ → List BlockRef → List ℕ
with_partners level at [] = []
with_partners level at (block ∷ blocks) = at ∷ joined_at level (most_rows - block.rows) 3 (at + 1) blocks

abbrev pub from_pair : ℕ → Option ℕ → List BlockRef → List ℕ
from_pair level None blocks = []
from_pair level (Some at) blocks = with_partners level at (drop at blocks)

-- what a walk from the end knows of the blocks after a position
pub record IsPairing (pairing : Pairing) (at : ℕ) (blocks : List BlockRef) : Type 0 where
  pub smallest : pairing.smallest ≡ smallest pairing.level blocks
  pub found : pairing.found ≡ pair_at pairing.level at blocks

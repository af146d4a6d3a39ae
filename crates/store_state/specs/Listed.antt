-- What a list names of a state of the machine.
use Rattle.std.specs.Prelude.{ℕ, ◌+◌, ◌<◌, ◌≤◌, min, List, [], ◌∷◌, ◌++◌, Option, None, Some, take, drop}
use Rattle.block_list.specs.declared.body.BlockRef.{BlockRef}
use Rattle.block_list.specs.declared.body.SegmentRef.{SegmentRef}
use Rattle.store_model.specs.State.{Block, Segment}

-- a block as a list names it
abbrev pub ref_of : Block → BlockRef
ref_of block = record { file = block.file; level = block.level; rows = block.size }

abbrev pub segment_of : SegmentRef → Segment
segment_of segment = record { file = segment.file; first = segment.first }

-- those that stand at the positions
abbrev pub picked : List ℕ → List Block → List Block
picked [] blocks = []
picked (at ∷ positions) blocks = take 1 (drop at blocks) ++ picked positions blocks

-- positions that ascend, the first at one or after it, and all before an end
abbrev pub Ascend : ℕ → ℕ → List ℕ → Type 0
Ascend from end [] = Unit {0}
Ascend from end (at ∷ positions) = (from ≤ at) × (at < end) × Ascend (at + 1) end positions

-- the floor from the history's length and the least number that waits
abbrev pub floor_from : ℕ → Option ℕ → ℕ
floor_from count None = count
floor_from count (Some number) = min number count

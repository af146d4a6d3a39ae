-- Blocks of a list by their files: what a compaction's commit leaves in it, and what it makes loose.
use Rattle.std.specs.Prelude.{ℕ, List, map, filter, not}
use Rattle.block_list.specs.declared.body.BlockRef.{BlockRef}
use Rattle.store_model.specs.State.{is_among}

-- the blocks outside of files
abbrev pub outside : List ℕ → List BlockRef → List BlockRef
outside files blocks = filter (λ block. not (is_among block.file files)) blocks

-- the files of those inside
abbrev pub inside : List ℕ → List BlockRef → List ℕ
inside files blocks = map (λ block. block.file) (filter (λ block. is_among block.file files) blocks)

-- How the listed blocks are read, and where one breaks.
use Rattle.std.specs.Prelude.{◌≡◌, ℕ, List, ◌∷◌, ◌++◌, map, Result, Ok, Err}
use Rattle.std.specs.List.{Contains}
use Rattle.disk_model.specs.Images.{Image, bytes_of}
use Rattle.block_info.specs.InfoParts.{InfoParts}
use Rattle.block_list.specs.declared.body.BlockRef.{BlockRef}
use Rattle.block_read.specs.BlockReadings.{listed_at}
use Rattle.block_read.specs.declared.block.Block.{Block}
use Rattle.store_state.specs.Shown.{AreBlocks}

-- how a list names the block of which this is known
abbrev pub listed_as : InfoParts → BlockRef
listed_as info = record { file = info.file; level = info.level; rows = info.rows }

-- the block that the bytes of a listed file are, with as many rows as the list says; or the first place where they are malformed
abbrev pub block_in : Image → BlockRef → Result Block ℕ
block_in image ref = listed_at ref.rows (bytes_of image ref.file)

-- each of the files is such a block
abbrev pub AreWhole : Image → List BlockRef → Type 0
AreWhole image refs = (ref : BlockRef) → Contains refs ref → (block : Block) × (block_in image ref ≡ Ok block)

-- The first of the blocks that breaks does so at this place of this file.
pub record BlocksBreak (image : Image) (refs : List BlockRef) (file at : ℕ) : Type 0 where
  pub front : List BlockRef
  pub here : BlockRef
  pub behind : List BlockRef
  pub split : refs ≡ front ++ here ∷ behind
  pub whole : AreWhole image front
  pub its_file : file ≡ here.file
  pub breaks : block_in image here ≡ Err at

-- The blocks were read as this information, in list order. `told` says that the disk tells its bytes: those of each file then stand
-- for rows that its information describes.
pub record BlocksRead (told : Type 0) (image : Image) (refs : List BlockRef) (infos : List InfoParts) : Type 0 where
  pub listed : map listed_as infos ≡ refs
  pub built : told → AreBlocks (λ file. bytes_of image file) infos

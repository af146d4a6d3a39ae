-- What is known of blocks, and what their files hold.
use Rattle.std.specs.Prelude.{List, map}
use Rattle.span_types.specs.declared.spans.Row.{Row}
use Rattle.disk_model.specs.Images.{Image, bytes_of}
use Rattle.block_info.specs.InfoParts.{InfoParts}
use Rattle.store_model.specs.State.{Block}
use Rattle.store_state.specs.Written.{AreBlocksOf}

abbrev pub rows_by_block : List Block → List (List Row)
rows_by_block blocks = map (λ block. block.rows) blocks

-- The file of each block is a block of its rows, which the information at the same place describes.
abbrev pub AreDescribed : Image → List InfoParts → List Block → Type 0
AreDescribed held infos blocks = AreBlocksOf (λ file. bytes_of held file) infos (rows_by_block blocks)

-- An image whose list is the next one of a flush's or a compaction's commit.
use Rattle.std.specs.Prelude.{◌≡◌, ℕ, ◌+◌, ◌-◌, ◌≤◌, List, [], ◌∷◌, ◌++◌, length, map, drop, Some}
use Rattle.std.specs.List.{Contains}
use Rattle.span_types.specs.declared.spans.Span.{Span}
use Rattle.span_types.specs.declared.spans.Row.{Row}
use Rattle.span_types.specs.First.{IsFirstOf}
use Rattle.disk_model.specs.Images.{Image, bytes_of}
use Rattle.disk_model.specs.Crash.{OnlyBytes}
use Rattle.head_log.specs.Stands.{SegmentKeeps}
use Rattle.block_list.specs.Slots.{ImageHoldsList}
use Rattle.block_list.specs.declared.body.SegmentRef.{SegmentRef}
use Rattle.block_list.specs.declared.body.ListBody.{ListBody}
use Rattle.store_model.specs.History.{History, count_of}
use Rattle.store_model.specs.Laws.{AgreesOn}
use Rattle.store_model.specs.RowSets.{Within}
use Rattle.store_model.specs.State.{Block, block_rows}
use Rattle.store_model.specs.Choice.{in_files, outside_files}
use Rattle.store_images.specs.Log.{LogHolds}
use Rattle.store_images.specs.Stored.{BlockStands, BlocksStand, SameFirsts, first_number, stored_rows, ref_of}
use Rattle.store_images.specs.Settled.{Tail, IsSettled}

-- ---- a flush

-- The image has what the old list names, and its slots stand for the next list: the flush's block comes after the others, some segments
-- at the front of the log are gone, and a new one without records comes after the rest. What waits outside of blocks is stored, and
-- is at the new floor or above it; with the blocks it has the history's first occurrences, as the old list's rows have.
pub record CommitsFlush (image : Image) (body new : ListBody) (blocks : List Block) (block : Block) (batches : List (List Span)) (waiting : List Row) (h : History) : Type 0 where
  pub gone : List SegmentRef
  pub kept : List SegmentRef
  pub segment : SegmentRef
  pub split : body.segments ≡ gone ++ kept
  pub segments : new.segments ≡ kept ++ segment ∷ []
  pub old_blocks : body.blocks ≡ map ref_of blocks
  pub blocks_are : new.blocks ≡ body.blocks ++ ref_of block ∷ []
  pub listed : ImageHoldsList image (Some new)
  pub logged : LogHolds image body.segments (first_number body) batches
  pub built : BlocksStand image blocks
  pub own : BlockStands image block
  pub empty : SegmentKeeps segment.first [] (bytes_of image segment.file)
  pub next : segment.first ≡ first_number body + length batches
  pub counts : count_of h ≡ first_number body + length batches
  pub agrees : AgreesOn (stored_rows blocks (first_number body) batches) h
  pub rest : AgreesOn (block_rows (blocks ++ block ∷ []) ++ waiting) h
  pub within : Within (block.rows ++ waiting) (stored_rows blocks (first_number body) batches)
  pub above : (row : Row) → Contains waiting row → new.floor ≤ row.place.number

-- ---- a compaction

-- the blocks that are listed once those in the files were joined into this one
abbrev pub with_joined : List ℕ → List Block → Block → List Block
with_joined files blocks block = outside_files files blocks ++ block ∷ []

-- The image has what the old list names, but for the blocks in the files, and its slots stand for the next list: the segments and the
-- floor stay, and in place of the blocks in the files one block comes last, which holds the first occurrences of their rows. The old
-- list's rows have the history's first occurrences, and its records below the floor bring none.
pub record CommitsCompaction (image : Image) (body new : ListBody) (files : List ℕ) (blocks : List Block) (block : Block) (batches : List (List Span)) (h : History) : Type 0 where
  pub segments : new.segments ≡ body.segments
  pub floor : new.floor ≡ body.floor
  pub blocks_are : new.blocks ≡ map ref_of (with_joined files blocks block)
  pub listed : ImageHoldsList image (Some new)
  pub logged : LogHolds image body.segments (first_number body) batches
  pub built : BlocksStand image (outside_files files blocks)
  pub own : BlockStands image block
  pub firsts : IsFirstOf (block_rows (in_files files blocks)) block.rows
  pub counts : count_of h ≡ first_number body + length batches
  pub agrees : AgreesOn (stored_rows blocks (first_number body) batches) h
  pub floored : SameFirsts (stored_rows blocks (first_number body) batches)
      (stored_rows blocks body.floor (drop (body.floor - first_number body) batches))

-- The next list of a compaction may be written: the disk is settled by the old one, and the new block's file has one image, which
-- holds the first occurrences of the rows of the blocks in the files.
pub record MayCompact (held : Image) (may_leave : Image → Type 0) (body new : ListBody) (files : List ℕ) (blocks : List Block) (block : Block) (tail : Tail) (h : History) : Type 0 where
  pub settled : IsSettled held may_leave body blocks tail h
  pub segments : new.segments ≡ body.segments
  pub floor : new.floor ≡ body.floor
  pub blocks_are : new.blocks ≡ map ref_of (with_joined files blocks block)
  pub low : 2 ≤ block.file
  pub own : BlockStands held block
  pub own_only : OnlyBytes block.file (bytes_of held block.file) may_leave
  pub firsts : IsFirstOf (block_rows (in_files files blocks)) block.rows

-- The frames of a core's page cache: what they hold, and what a page read makes of them.
use Rattle.std.specs.Prelude.{◌≡◌, ◌⊎◌, ℕ, ◌+◌, ◌<◌, ◌≤◌, false, List, Result, Ok, Err, IfSome}
use Rattle.std.specs.List.{AllByRecursion}
use Rattle.span_types.specs.declared.errors.Failed.{Failed}
use Rattle.disk_model.specs.Counts.{RoseBy}
use Rattle.disk_model.specs.Images.{Image, bytes_of}
use Rattle.page_cache.specs.Frames.{Frame, IsBrought, IsTaken, NoneHolds}
use Rattle.page_cache.specs.declared.frame.CachedPage.{CachedPage}
use Rattle.store_model.specs.State.{State, block_files, open_files, pinned_files, is_among}
use Rattle.store_model.specs.Sound.{times}
use Rattle.store_state.specs.Written.{page_of}

-- the file is a listed block's, or a pin names it
abbrev pub IsKept : ℕ → State → Type 0
IsKept file u = 1 ≤ times file (block_files u.blocks) + times file (pinned_files u.pins)

-- A page that stands in a frame is of a file that was given out and is no open job's. While that file is kept, its bytes are those that
-- the disk holds there. `told` says that the disk tells its bytes.
pub record FrameFits (told : Type 0) (held : Image) (u : State) (cached : CachedPage) : Type 0 where
  pub given_out : cached.file < u.next_file
  pub apart : is_among cached.file (open_files u) ≡ false
  pub bytes : told → IsKept cached.file u → cached.bytes ≡ page_of (bytes_of held cached.file) cached.page

abbrev pub FramesFit : Type 0 → Image → State → List Frame → Type 0
FramesFit told held u frames = AllByRecursion (λ frame. IfSome frame (FrameFits told held u)) frames

-- A page read, by its result and what it makes of the frames and of the disk's counts of reads and of calls. A page in a frame costs
-- none, and is brought to the front. Another one costs one read, and takes the last frame. A failed read leaves the frames.
abbrev pub IsReadThrough : {U : Type 0} → ℕ → ℕ → List ℕ → Result U Failed → (old new : List Frame) → (reads reads_after calls calls_after : ℕ) → Type 0
IsReadThrough file page bytes (Ok u) old new reads reads_after calls calls_after =
    (IsBrought file page bytes old new × (reads_after ≡ reads) × (calls_after ≡ calls))
    ⊎ (NoneHolds file page old × IsTaken file page bytes old new × RoseBy 1 reads reads_after × RoseBy 1 calls calls_after)
IsReadThrough file page bytes (Err e) old new reads reads_after calls calls_after = NoneHolds file page old × (new ≡ old)

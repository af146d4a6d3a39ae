-- What a core keeps: its listed blocks with their rows, and the rows outside of blocks.
use Rattle.std.specs.Prelude.{◌≡◌, ℕ, List, ◌++◌, IsTrue}
use Rattle.span_types.specs.declared.spans.Row.{Row}
use Rattle.disk_model.specs.Images.{bytes_of}
use Rattle.disk_model.specs.declared.disk.Device.{Ghosts}
use Rattle.store_model.specs.State.{State, live_rows}
use Rattle.store_state.specs.Kept.{Kept}
use Rattle.store_state.specs.Written.{AreBlocksOf}
use Rattle.store_core.specs.declared.state.CoreState.{CoreState}
use Rattle.store_core.specs.declared.store.Core.{Core}
use Rattle.store_files.specs.Described.{rows_by_block}
use Rattle.store_core.specs.Waiting.{rows_outside}

-- the rows in memory outside of blocks: those of an open flush, those of the head, and those of live traces
abbrev pub rows_held : CoreState → List Row
rows_held core = core.live.flushing ++ core.live.head ++ live_rows core.live.live

-- Where its disk tells bytes: the blocks that it lists, with rows that their files hold as the information describes them, and the
-- rows outside of blocks.
pub record CoreKeeps {D : Type 0} (g : Ghosts D) (core : Core D) (kept : Kept) : Type 0 where
  pub told : IsTrue (g.tells core.disk)
  pub infos : kept.infos ≡ core.state.infos.items
  pub blocks : AreBlocksOf (λ file. bytes_of (g.held core.disk) file) kept.infos kept.parts
  pub outside : kept.outside ≡ rows_held core.state

-- a machine's blocks by the information that the core has of them, with their rows, and the machine's rows outside of blocks
abbrev pub kept_in : CoreState → State → Kept
kept_in core u = record { infos = core.infos.items; parts = rows_by_block u.blocks; outside = rows_outside u }

-- What the core lists, the rows in its memory, and the bytes of its disk are as they were.
pub record IsLeft {D : Type 0} (g : Ghosts D) (old new : Core D) : Type 0 where
  pub infos : new.state.infos ≡ old.state.infos
  pub live : new.state.live ≡ old.state.live
  pub telling : g.tells new.disk ≡ g.tells old.disk
  pub bytes : IsTrue (g.tells old.disk) → (file : ℕ) → bytes_of (g.held new.disk) file ≡ bytes_of (g.held old.disk) file

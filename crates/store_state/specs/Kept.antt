-- What a port keeps, where it tells so: its listed blocks with their rows, and the rows outside of them.
use Rattle.std.specs.Prelude.{◌≡◌, ℕ, List}
use Rattle.span_types.specs.declared.spans.Row.{Row}
use Rattle.block_info.specs.InfoParts.{InfoParts}
use Rattle.store_state.specs.declared.jobs.Look.{Look}
use Rattle.store_state.specs.Written.{AreBlocksOf}

-- The listed blocks by their information, in list order, the rows of each, and the rows outside of blocks: those of an open flush,
-- those of the head, and those of live traces, in this order.
pub record Kept : Type 0 where
  pub infos : List InfoParts
  pub parts : List (List Row)
  pub outside : List Row

-- A look has what was kept: it pins just the listed blocks, whose files hold their rows as the information describes them, and it
-- has the rows outside of them.
pub record HasKept (bytes : ℕ → List ℕ) (look : Look) (kept : Kept) : Type 0 where
  pub pinned : look.pin.blocks ≡ kept.infos
  pub blocks : AreBlocksOf bytes look.pin.blocks kept.parts
  pub outside : look.rows ≡ kept.outside

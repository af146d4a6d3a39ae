-- What the list on a disk names of a store's state.
use Rattle.std.specs.Prelude.{◌≡◌, ◌≤◌, ◌-◌, List, drop, map, Some}
use Rattle.std.specs.List.{Contains}
use Rattle.span_types.specs.Keys.{row_key}
use Rattle.span_types.specs.declared.spans.Row.{Row}
use Rattle.span_types.specs.declared.spans.Span.{Span}
use Rattle.disk_model.specs.Images.{Image}
use Rattle.block_list.specs.Slots.{ImageHoldsList}
use Rattle.block_list.specs.declared.body.ListBody.{ListBody}
use Rattle.store_model.specs.History.{record_rows}
use Rattle.store_model.specs.RowSets.{Within}
use Rattle.store_model.specs.State.{State, state_rows}
use Rattle.store_images.specs.Log.{LogHolds}
use Rattle.store_images.specs.Stored.{BlocksStand, first_number, ref_of}
use Rattle.store_core.specs.Cores.{segment_of}
use Rattle.store_core.specs.InUse.{AreInUse}
use Rattle.store_core.specs.Waiting.{rows_outside}

-- The rows of a log from the list's floor on, where its segments stand for these batches. A store that is opened has just these live.
abbrev pub rows_from_floor : ListBody → List (List Span) → List Row
rows_from_floor list batches = record_rows list.floor (drop (list.floor - first_number list) batches)

-- one of these rows has the key of that row
abbrev pub HaveKeyOf : List Row → Row → Type 0
HaveKeyOf rows row = (x : Row) × Contains rows x × (row_key x ≡ row_key row)

-- The image lists the state: the list that counts in it names the state's blocks, segments and floor, and the blocks' files stand for
-- their rows. Each file that the list names, or that was given out since, is one of the state's: a segment's or a block's, a loose one,
-- or an open job's. The list gives out no number beyond the state's next one. The log has each row that waits outside of blocks, from
-- the floor on; and from there on it has no span that the state doesn't have, though it may have one more often, and in other places.
pub record ListsState (image : Image) (u : State) : Type 0 where
  pub list : ListBody
  pub counts : ImageHoldsList image (Some list)
  pub blocks : list.blocks ≡ map ref_of u.blocks
  pub built : BlocksStand image u.blocks
  pub segments : u.segments ≡ map segment_of list.segments
  pub floor : u.floor ≡ list.floor
  pub used : AreInUse list u
  pub given : list.next_file ≤ u.next_file
  pub batches : List (List Span)
  pub logged : LogHolds image list.segments (first_number list) batches
  pub waits : Within (rows_outside u) (rows_from_floor list batches)
  pub known : (row : Row) → Contains (rows_from_floor list batches) row → HaveKeyOf (state_rows u) row

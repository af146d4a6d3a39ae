-- The lists that commits make. (Private: no contract of a public call cites it.)
use Rattle.std.specs.Prelude.{◌≡◌, ℕ, ◌+◌, List, [], ◌++◌, filter, not, Option, Some, None}
use Rattle.std.specs.List.{Contains}
use Rattle.block_info.specs.InfoParts.{InfoParts}
use Rattle.block_list.specs.declared.body.ListBody.{ListBody}
use Rattle.live_traces.specs.Parts.{least_number}
use Rattle.store_model.specs.State.{is_among, live_rows}
use Rattle.store_state.specs.Edited.{Edit, IsEdited}
use Rattle.store_state.specs.Listed.{floor_from}
use Rattle.store_state.specs.declared.listing.FlushFiles.{FlushFiles}
use Rattle.store_core.specs.declared.jobs.Jobs.{Jobs}
use Rattle.store_core.specs.declared.jobs.OpenCompaction.{OpenCompaction}
use Rattle.store_core.specs.declared.state.CoreState.{CoreState}
use Rattle.store_core.specs.Jobs.{files_of_flush, files_of_compaction}
use Rattle.store_files.specs.Pins.{files_at}

-- Of these loose files those that a pin names, and the others, each in their order.
pub record IsParted (pins : List (Option (List ℕ))) (loose kept free : List ℕ) : Type 0 where
  pub pinned : List ℕ
  pub all : (number file : ℕ) → Contains (files_at number pins) file → Contains pinned file
  pub only : (file : ℕ) → Contains pinned file → (number : ℕ) × Contains (files_at number pins) file
  pub kept_are : kept ≡ filter (λ file. is_among file pinned) loose
  pub free_are : free ≡ filter (λ file. not (is_among file pinned)) loose

-- the information of the blocks outside of these files
abbrev pub infos_outside : List ℕ → List InfoParts → List InfoParts
infos_outside files infos = filter (λ info. not (is_among info.file files)) infos

-- the length of the history
abbrev pub length_of : CoreState → ℕ
length_of core = core.segment.first + core.segment.count

-- the least number of a push of which a row waits in the head or live, or else the history's length
abbrev pub next_floor : CoreState → ℕ
next_floor core = floor_from (length_of core) (least_number (core.live.head ++ live_rows core.live.live))

-- What the commit of a flush changes of the core's list: a block of so many rows and a segment come last.
abbrev pub flush_edit : CoreState → FlushFiles → ℕ → Edit
flush_edit core files rows = record {
  next_file = core.jobs.next_file;
  loose = core.jobs.loose.items;
  joined = [];
  block = Some (record { file = files.block; level = 0; rows = rows });
  segment = Some (record { segment = record { file = files.segment; first = length_of core }; floor = next_floor core });
  others = files_of_compaction core.jobs.compaction;
}

-- That of a compaction: a block of so many rows comes last, in the place of the blocks in these files.
abbrev pub compact_edit : CoreState → OpenCompaction → List ℕ → ℕ → Edit
compact_edit core known joined rows = record {
  next_file = core.jobs.next_file;
  loose = core.jobs.loose.items;
  joined = joined;
  block = Some (record { file = known.file; level = known.level; rows = rows });
  segment = None;
  others = files_of_flush core.jobs.flush;
}

-- That of a reclaim: it names these files as loose.
abbrev pub kept_edit : Jobs → List ℕ → Edit
kept_edit jobs kept = record {
  next_file = jobs.next_file;
  loose = kept;
  joined = [];
  block = None;
  segment = None;
  others = files_of_flush jobs.flush ++ files_of_compaction jobs.compaction;
}

-- The core's list as the commit of a flush or of a compaction makes it.
abbrev pub IsNextList : CoreState → FlushFiles → ℕ → ListBody → Type 0
IsNextList core files rows next = IsEdited core.list (flush_edit core files rows) next

abbrev pub IsJoinedList : CoreState → OpenCompaction → List ℕ → ℕ → ListBody → Type 0
IsJoinedList core known joined rows next = IsEdited core.list (compact_edit core known joined rows) next

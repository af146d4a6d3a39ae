-- Whether a flush or a compaction may begin. (Private: no contract of a public call cites it.)
use Rattle.std.specs.Prelude.{◌≡◌, ℕ, ◌+◌, ◌<◌, ◌≤◌, ◌==◌, ◌||◌, min, Bool, true, false, if◌then◌else◌, List, [], ◌∷◌, ◌++◌, length, map, take, drop, Option, None, Some, Vec}
use Rattle.std.specs.Vec.{vec_len, vec_capacity}
use Rattle.std.specs.declared.alloc.Global.{Global}
use Rattle.block_info.specs.InfoParts.{InfoParts}
use Rattle.block_list.specs.declared.body.ListBody.{ListBody}
use Rattle.store_model.specs.Choice.{level_of}
use Rattle.store_state.specs.Given.{info_files}
use Rattle.store_state.specs.Listed.{Ascend}
use Rattle.store_state.specs.Shown.{told_block}
use Rattle.store_state.specs.declared.jobs.Pin.{Pin}
use Rattle.store_model.specs.Event.{Reply}
use Rattle.store_model.specs.Event.Reply.{Nothing}
use Rattle.store_core.specs.Jobs.{JobsFit, CommitFits, HaveRoomFor, HasCommitRoom, SameJobs}
use Rattle.store_files.specs.Pins.{is_taken, files_at}
use Rattle.store_core.specs.declared.jobs.Jobs.{Jobs}
use Rattle.store_core.specs.declared.room.CommitRoom.{CommitRoom}
use Rattle.store_core.specs.declared.state.CoreState.{CoreState}

-- without rows for it the reply is sure
abbrev pub unless_rows : Bool → Option Reply
unless_rows true = None
unless_rows false = Some Nothing

pub record MayBegin (core : CoreState) : Type 0 where
  pub writes : core.read_only ≡ None
  pub none : core.jobs.flush ≡ None
  pub files : core.jobs.next_file < 4294967294
  pub rows : 1 ≤ length core.live.head

pub record MayCompact (core : CoreState) (chosen : List ℕ) : Type 0 where
  pub writes : core.read_only ≡ None
  pub none : core.jobs.compaction ≡ None
  pub files : core.jobs.next_file < 4294967294
  -- positions in the list
  pub some : 1 ≤ length chosen
  pub ascend : Ascend 0 (length core.list.blocks) chosen

-- those that stand at the positions
abbrev pub at_places : {T : Type 0} → List ℕ → List T → List T
at_places [] xs = []
at_places (at ∷ places) xs = take 1 (drop at xs) ++ at_places places xs

-- Memory was taken for the ends of jobs, and no more was done: no room that was there is lost.
pub record KeepsRooms (list : ListBody) (was now : Vec InfoParts Global) (old new : Jobs) : Type 0 where
  pub infos : now.items ≡ was.items
  pub same : SameJobs old new
  pub fit : JobsFit old list → JobsFit new list
  pub rooms : HasCommitRoom old list was → HasCommitRoom new list now

-- the same of a core's memory, in which perhaps a pin was made
pub record HasRoomStill (old new : CoreState) : Type 0 where
  pub is : new ≡ record old { infos = new.infos; jobs = new.jobs; pins = new.pins }
  pub keeps : KeepsRooms old.list old.infos new.infos old.jobs new.jobs

-- There is this room for the commit of a job that begins, and room for its end beside that of another one.
pub record HasRoomToBegin (list : ListBody) (known : Vec InfoParts Global) (jobs : Jobs) (room : CommitRoom) : Type 0 where
  pub mine : CommitFits room list (vec_len jobs.loose) 2
  pub other : HaveRoomFor 2 jobs list
  pub loose : vec_len jobs.loose + length list.segments + length list.blocks + 4 ≤ vec_capacity jobs.loose
  pub infos : vec_len known + 2 ≤ vec_capacity known

-- The level and the pin of a compaction that begins with the blocks at these positions, and all memory for its end.
pub record IsMade (old : CoreState) (chosen : List ℕ) (level : ℕ) (pin : Pin) (room : CommitRoom) (new : CoreState) : Type 0 where
  pub still : HasRoomStill old new
  pub has_room : HasRoomToBegin old.list new.infos new.jobs room
  pub blocks : pin.blocks ≡ at_places chosen old.infos.items
  pub its_level : level ≡ min (level_of (map told_block pin.blocks) + 1) 255
  pub free : is_taken pin.number old.pins.items ≡ false
  pub least : (other : ℕ) → is_taken other old.pins.items ≡ false → pin.number ≤ other
  pub taken : (other : ℕ) → is_taken other new.pins.items ≡ (is_taken other old.pins.items || (pin.number == other))
  pub files : (other : ℕ) → files_at other new.pins.items ≡ (if pin.number == other then info_files pin.blocks else files_at other old.pins.items)

-- out of memory no pin was made
pub record IsNotMade (old new : CoreState) : Type 0 where
  pub still : HasRoomStill old new
  pub taken : (other : ℕ) → is_taken other new.pins.items ≡ is_taken other old.pins.items
  pub files : (other : ℕ) → files_at other new.pins.items ≡ files_at other old.pins.items

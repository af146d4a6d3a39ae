-- What opening a store makes of its disk, what the core then stands for, and where bytes aren't a store's.
use Rattle.std.specs.Prelude.{◌≡◌, ℕ, ◌+◌, ◌-◌, ◌≤◌, List, [], ◌∷◌, ◌++◌, length, map, drop, nat_le, if◌then◌else◌, Option, Some, None, Ok, Err, IsTrue}
use Rattle.span_types.specs.declared.spans.Span.{Span}
use Rattle.span_types.specs.declared.spans.Row.{Row}
use Rattle.span_types.specs.First.{IsFirstOf}
use Rattle.disk_model.specs.Images.{Image, bytes_of}
use Rattle.disk_model.specs.Crash.{Run}
use Rattle.disk_model.specs.declared.disk.Device.{Ghosts}
use Rattle.head_log.specs.declared.numbered.NumberedBatch.{NumberedBatch}
use Rattle.block_list.specs.Reading.{slots_at}
use Rattle.block_list.specs.Slots.{ImageHoldsList}
use Rattle.block_list.specs.Loading.{KeepsList}
use Rattle.block_list.specs.declared.body.ListBody.{ListBody}
use Rattle.block_list.specs.declared.error.ListError.{ListError}
use Rattle.block_list.specs.declared.error.ListError.TheVariants as list_errors
use Rattle.store_model.specs.History.{History, batch_rows, record_rows}
use Rattle.store_model.specs.State.{State, Block}
use Rattle.store_model.specs.After.{arrived}
use Rattle.store_model.specs.Step.{Machine}
use Rattle.store_images.specs.Log.{LogHolds}
use Rattle.store_images.specs.Stored.{BlocksStand, ImageStandsFor, IsSoundImage, first_number, ref_of}
use Rattle.store_files.specs.BlockReading.{AreWhole, BlocksBreak, listed_as}
use Rattle.store_core.specs.Cores.{CoreStandsFor, CoreShows, segment_of, unsure_of}
use Rattle.store_core.specs.Jobs.{HasNoJobs}
use Rattle.store_files.specs.LogReading.{LogBreaks}
use Rattle.store_files.specs.Loose.{without_loose}
use Rattle.store_core.specs.New.{new_list}
use Rattle.store_core.specs.NewCore.{new_machine}
use Rattle.store_files.specs.declared.error.OpenError.{OpenError}
use Rattle.store_files.specs.declared.error.OpenError.TheVariants as errors
use Rattle.store_core.specs.declared.state.CoreState.{CoreState}
use Rattle.store_core.specs.declared.store.Core.{Core}

-- An opening that is refused for another cause than a fault: of each image at any moment, and of what a read gives, every file and
-- every slot stays as it was, but for a slot without a list, which may be cut to its gate.
pub record LeavesAlone {D : Type 0} (g : Ghosts D) (disk later : D) : Type 0 where
  pub images : Run KeepsList g.moment g.left_since g.may_leave disk later
  pub bytes : KeepsList (g.held disk) (g.held later)

-- ---- what the core stands for

-- the list that an opening leaves of what the slots stood for
abbrev pub opened_list : Option ListBody → ListBody
opened_list None = new_list
opened_list (Some list) = without_loose list

-- the rows of the batches whose numbers are at least the floor
abbrev pub rows_from : ℕ → List NumberedBatch → List Row
rows_from floor [] = []
rows_from floor (e ∷ es) = (if nat_le floor e.number then batch_rows e.number e.batch.spans else []) ++ rows_from floor es

-- The store's state after a list, its blocks and the batches of its log were read: the rows from the floor on wait, with the moment
-- of the opening. No file is loose, and no job or pin is open.
abbrev pub opened_state : ListBody → List Block → List (List Span) → ℕ → State
opened_state list blocks batches moment = record {
  live = arrived moment (record_rows list.floor (drop (list.floor - first_number list) batches));
  head = [];
  flush = None;
  compaction = None;
  blocks = blocks;
  segments = map segment_of list.segments;
  floor = list.floor;
  loose = [];
  pins = [];
  next_file = list.next_file;
  begun = 0;
}

-- That is the state in which a store begins that was opened on these bytes, or that of a new store.
pub record BeginsAs (image : Image) (moment : ℕ) (m : Machine) : Type 0 where
  pub new : ImageHoldsList image None → m.state ≡ (new_machine m.history).state
  pub found : (list : ListBody) (blocks : List Block) (batches : List (List Span)) → ImageHoldsList image (Some list)
      → list.blocks ≡ map ref_of blocks → BlocksStand image blocks → LogHolds image list.segments (first_number list) batches
      → m.state ≡ opened_state list blocks batches moment
  pub writes : m.read_only ≡ None

-- A machine in which a store begins, over whatever bytes: it writes, its head is empty, no job was begun and none is open, no file
-- is loose and no pin is open.
pub record BeginsEmpty (m : Machine) : Type 0 where
  pub writes : m.read_only ≡ None
  pub head : m.state.head ≡ []
  pub flush : m.state.flush ≡ None
  pub compaction : m.state.compaction ≡ None
  pub begun : m.state.begun ≡ 0
  pub loose : m.state.loose ≡ []
  pub pins : m.state.pins ≡ []

-- A machine with which a core begins, over whatever bytes: its memory shows it, and its history is a base alone, each span of it once.
pub record OpensOver {D : Type 0} (g : Ghosts D) (core : Core D) (m : Machine) : Type 0 where
  pub shows : CoreShows g core m
  pub empty : BeginsEmpty m
  pub base_alone : m.history.entries ≡ []
  pub once : IsFirstOf m.history.base m.history.base

-- Such a machine, for which the core stands. Where the disk tells its bytes it is the one that they stood for.
pub record OpensAs {D : Type 0} (g : Ghosts D) (disk : D) (moment : ℕ) (core : Core D) (m : Machine) : Type 0 where
  pub over : OpensOver g core m
  pub stands : CoreStandsFor g core m
  pub stored : IsTrue (g.tells disk) → ImageStandsFor (g.held disk) m.history × BeginsAs (g.held disk) moment m

-- A core that was opened on a disk.
pub record Opened {D : Type 0} (g : Ghosts D) (disk : D) (moment : ℕ) (core : Core D) : Type 0 where
  -- it stands for each history that the bytes stood for which the disk held
  pub stands : IsTrue (g.tells disk) → (h : History) → ImageStandsFor (g.held disk) h
      → (m : Machine) × CoreStandsFor g core m × (m.history ≡ h) × BeginsAs (g.held disk) moment m
  -- where the disk doesn't tell its bytes or they were a store's, for a machine with which it begins
  pub founded : (IsTrue (g.tells disk) → IsSoundImage (g.held disk)) → (m : Machine) × OpensAs g disk moment core m
  -- and, whatever the bytes, its memory shows some machine with which it begins
  pub begins : (m : Machine) × OpensOver g core m

-- What its memory has then.
pub record IsOpenedState (list : ListBody) (batches : List (List Span)) (moment : ℕ) (state : CoreState) : Type 0 where
  pub listing : state.list ≡ without_loose list
  pub live : state.live.live ≡ arrived moment (record_rows list.floor (drop (list.floor - first_number list) batches))
  pub head : state.live.head ≡ []
  pub flushing : state.live.flushing ≡ []
  pub infos : map listed_as state.infos.items ≡ list.blocks
  pub pins : state.pins.items ≡ []
  pub few : state.segment.first + state.segment.count ≤ 4294967295
  pub writes : state.read_only ≡ None
  pub sure : unsure_of state ≡ None
  pub jobs : HasNoJobs state.jobs state.list.next_file

-- ---- where bytes aren't a store's

-- what is said of slots that were refused
abbrev pub refusal_of : ListError → OpenError
refusal_of list_errors.Fault = errors.Fault
refusal_of (list_errors.NotList slot at) = errors.NotStore slot at
refusal_of list_errors.Memory = errors.Memory

-- What the list names breaks first at this place of this file: at one of its blocks, or else in its log.
pub data ListBreaks (image : Image) (list : ListBody) (file at : ℕ) : Type 0 where
  block : BlocksBreak image list.blocks file at → ListBreaks image list file at
  log : AreWhole image list.blocks → LogBreaks image list.segments (first_number list) file at → ListBreaks image list file at

-- The bytes break first at this place of this file: in a slot, or else in what the list names.
pub data StoreBreaks (image : Image) (file at : ℕ) : Type 0 where
  slot : slots_at (bytes_of image 0) (bytes_of image 1) ≡ Err (file, at) → StoreBreaks image file at
  listed : (list : ListBody) → slots_at (bytes_of image 0) (bytes_of image 1) ≡ Ok (Some list) → ListBreaks image list file at → StoreBreaks image file at

-- ---- how many entries any image has

-- An image, be it a store's or not, has so many entries: none if it has no list, else as many as come before its log and the batches of that.
pub data HasEntries (image : Image) (n : ℕ) : Type 0 where
  vacant : ImageHoldsList image None → n ≡ 0 → HasEntries image n
  filled : (list : ListBody) (batches : List (List Span)) → ImageHoldsList image (Some list)
      → LogHolds image list.segments (first_number list) batches → n ≡ first_number list + length batches → HasEntries image n

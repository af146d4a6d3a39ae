-- What a core stands for: a machine of the store's model, which its memory shows in part, and a history that its disk holds.
use Rattle.std.specs.Prelude.{◌≡◌, ℕ, ◌+◌, ◌≤◌, List, [], ◌∷◌, ◌++◌, map, length, Option, None, IsTrue}
use Rattle.std.specs.Option.{option_map}
use Rattle.disk_model.specs.Images.{Image, bytes_of}
use Rattle.disk_model.specs.declared.disk.Device.{Ghosts}
use Rattle.block_list.specs.Body.{MeetsRules}
use Rattle.block_list.specs.declared.body.SegmentRef.{SegmentRef}
use Rattle.store_entries.specs.declared.entry.Entry.{Entry}
use Rattle.store_model.specs.History.{count_of, push_of}
use Rattle.store_model.specs.State.{Segment as ModelSegment, pin_numbers, block_files, flush_rows, pinned_blocks, is_among}
use Rattle.store_model.specs.Step.{Machine}
use Rattle.store_model.specs.Laws.{Agrees}
use Rattle.store_model.specs.Sound.{StateIsSound}
use Rattle.store_model.specs.Told.{IsAboveFloor}
use Rattle.store_state.specs.Given.{info_files}
use Rattle.store_state.specs.Shown.{AreBlocks}
use Rattle.store_images.specs.Stored.{MayStandFor, ref_of}
use Rattle.store_images.specs.Settled.{IsSettled}
use Rattle.store_files.specs.BlockReading.{listed_as}
use Rattle.store_files.specs.Described.{AreDescribed}
use Rattle.store_files.specs.LogReading.{tail_of}
use Rattle.store_files.specs.Pins.{is_taken, files_at}
use Rattle.store_core.specs.Jobs.{ShowsFlush, ShowsCompaction, JobsFit, HasCommitRoom, HasFreshSegment}
use Rattle.store_core.specs.Waiting.{rows_outside, AreLogged}
use Rattle.store_core.specs.InUse.{AreInUse}
use Rattle.store_core.specs.Stood.{StoodFor}
use Rattle.store_core.specs.Frames.{FramesFit}
use Rattle.store_core.specs.declared.state.CoreState.{CoreState}
use Rattle.store_core.specs.declared.store.Core.{Core}

-- the entry whose call answered a fault
abbrev pub unsure_of : CoreState → Option Entry
unsure_of core = option_map (λ ready. push_of ready.spans) core.unsure

abbrev pub segment_of : SegmentRef → ModelSegment
segment_of ref = record { file = ref.file; first = ref.first }

-- how many rows the core's memory holds outside of blocks, repeats among them
abbrev pub held_in : {D : Type 0} → Core D → ℕ
held_in core = length core.state.live.flushing + length core.state.live.head + length core.state.live.live

-- What the core's memory shows of the machine.
pub record HasState (core : CoreState) (m : Machine) : Type 0 where
  pub count : count_of m.history ≡ core.segment.first + core.segment.count
  pub few : core.segment.first + core.segment.count ≤ 4294967295
  pub live : m.state.live ≡ core.live.live
  pub head : m.state.head ≡ core.live.head
  pub flushing : core.live.flushing ≡ flush_rows m.state.flush
  pub flush : ShowsFlush core.jobs.flush m.state.flush
  pub compaction : ShowsCompaction core.jobs.compaction m.state.compaction
  pub blocks : core.list.blocks ≡ map ref_of m.state.blocks
  pub infos : info_files core.infos.items ≡ block_files m.state.blocks
  pub listed : map listed_as core.infos.items ≡ core.list.blocks
  -- while the store writes
  pub commit : core.read_only ≡ None → HasCommitRoom core.jobs core.list core.infos
  pub rules : MeetsRules core.list
  pub segments : m.state.segments ≡ map segment_of core.list.segments
  pub last : (front : List SegmentRef) × (core.list.segments ≡ front ++ record { file = core.segment.file; first = core.segment.first } ∷ [])
  pub floor : m.state.floor ≡ core.list.floor
  pub loose : m.state.loose ≡ core.jobs.loose.items
  pub next_file : m.state.next_file ≡ core.jobs.next_file
  pub begun : m.state.begun ≡ core.jobs.begun
  pub jobs : JobsFit core.jobs core.list
  pub used : AreInUse core.list m.state
  pub pins : (n : ℕ) → is_among n (pin_numbers m.state.pins) ≡ is_taken n core.pins.items
  pub pinned : (n : ℕ) → block_files (pinned_blocks n m.state.pins) ≡ files_at n core.pins.items
  pub read_only : m.read_only ≡ core.read_only

-- A core with this memory, over a disk that holds this and may leave that, stands for the machine: what it keeps has the
-- history's first occurrences, and so has every image that a crash may leave now, or it has besides the entry whose call
-- failed. While the store writes, the disk is settled, an open flush has its segment, and what waits outside of blocks stands in the
-- log. `told` says that the disk tells its bytes.
pub record StandsFor (told : Type 0) (held : Image) (may_leave : Image → Type 0) (core : CoreState) (m : Machine) : Type 0 where
  pub has : HasState core m
  pub agrees : Agrees m
  pub sound : StateIsSound m.state
  pub above : IsAboveFloor m
  -- what the files of the listed blocks hold, also in a store that writes no more
  pub built : told → AreDescribed held core.infos.items m.state.blocks
  pub now : told → (image : Image) → may_leave image → MayStandFor m.history (unsure_of core) image
  pub settled : told → core.read_only ≡ None → IsSettled held may_leave core.list m.state.blocks (tail_of core.segment) m.history
  pub sure : core.read_only ≡ None → unsure_of core ≡ None
  pub fresh : told → core.read_only ≡ None → HasFreshSegment held may_leave core.jobs
  pub logged : told → core.read_only ≡ None → AreLogged held core.list (rows_outside m.state)

-- Whenever a crash came since the core's opening ended, the image that it left stands for the history as it was at some length from
-- its start on, or for what an image may stand for now.
pub record StoodSince {D : Type 0} (g : Ghosts D) (core : Core D) (m : Machine) : Type 0 where
  pub opened : core.since.moment ≤ g.moment core.disk
  pub images : (image : Image) → g.left_since core.disk core.since.moment image
      → StoodFor m.history.start m.history (unsure_of core.state) image

-- The core stands for the machine: by what it keeps and what its disk may leave now, and by what a crash may have left since its
-- opening ended.
pub record CoreStandsFor {D : Type 0} (g : Ghosts D) (core : Core D) (m : Machine) : Type 0 where
  pub stands : StandsFor (IsTrue (g.tells core.disk)) (g.held core.disk) (g.may_leave core.disk) core.state m
  pub past : IsTrue (g.tells core.disk) → StoodSince g core m

-- what the core keeps shows the machine, whatever its disk holds
abbrev pub StateShows : {D : Type 0} (g : Ghosts D) → Core D → Machine → Type 0
StateShows {D} g core m = StandsFor ⊥ (g.held core.disk) (g.may_leave core.disk) core.state m

-- Where its disk tells bytes the file of each listed block is one, of some rows, as its information describes it.
abbrev pub ListsBlocks : {D : Type 0} (g : Ghosts D) → Core D → Type 0
ListsBlocks g core = IsTrue (g.tells core.disk) → AreBlocks (λ file. bytes_of (g.held core.disk) file) core.state.infos.items

-- The core's memory shows the machine, whatever its disk holds: by what it keeps, and by the frames of its page cache. Each block that
-- it lists is one: an opening checked it, or it was written as one since. So it needs no sound store.
pub record CoreShows {D : Type 0} (g : Ghosts D) (core : Core D) (m : Machine) : Type 0 where
  pub state : StateShows g core m
  pub whole : ListsBlocks g core
  pub frames : FramesFit (IsTrue (g.tells core.disk)) (g.held core.disk) m.state core.cache

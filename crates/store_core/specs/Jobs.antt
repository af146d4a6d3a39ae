-- What a core keeps of jobs: the open flush, the open compaction, and which files were given out.
use Rattle.std.specs.Prelude.{◌≡◌, ℕ, ◌+◌, ◌*◌, ◌≤◌, List, [], ◌∷◌, length, Option, Some, None, IfSome, Vec}
use Rattle.std.specs.Vec.{vec_len, vec_capacity}
use Rattle.std.specs.declared.alloc.Global.{Global}
use Rattle.disk_model.specs.Images.{Image, bytes_of}
use Rattle.disk_model.specs.Crash.{OnlyBytes}
use Rattle.head_log.specs.Stands.{SegmentHolds}
use Rattle.block_info.specs.InfoParts.{InfoParts}
use Rattle.block_list.specs.declared.body.ListBody.{ListBody}
use Rattle.store_model.specs.State.{Flush, Compaction}
use Rattle.store_state.specs.Loose.{AreFilesOf}
use Rattle.store_files.specs.Loose.{IsSpare}
use Rattle.store_core.specs.declared.jobs.Jobs.{Jobs}
use Rattle.store_core.specs.declared.jobs.OpenFlush.{OpenFlush}
use Rattle.store_core.specs.declared.jobs.OpenCompaction.{OpenCompaction}
use Rattle.store_core.specs.declared.room.CommitRoom.{CommitRoom}

-- the flush that is known is the one that is open
abbrev pub ShowsFlush : Option OpenFlush → Option Flush → Type 0
ShowsFlush None flush = flush ≡ None
ShowsFlush (Some known) flush = (job : Flush) × (flush ≡ Some job) × (job.number ≡ known.number) × AreFilesOf known.files job

-- the compaction that is known is the one that is open
abbrev pub ShowsCompaction : Option OpenCompaction → Option Compaction → Type 0
ShowsCompaction None compaction = compaction ≡ None
ShowsCompaction (Some known) compaction =
    compaction ≡ Some (record { number = known.number; file = known.file; level = known.level; pin = known.pin })

-- one for a job that is open
abbrev pub one_if : {Job : Type 0} → Option Job → ℕ
one_if None = 0
one_if (Some job) = 1

-- how many jobs are open
abbrev pub open_jobs : Jobs → ℕ
open_jobs jobs = one_if jobs.flush + one_if jobs.compaction

-- The files of open jobs are spare ones of the list. Among the loose files there is room for what open jobs add, by their commits
-- or by being given up, in any order: each adds two files at most, and each segment and each block may become loose.
pub record JobsFit (jobs : Jobs) (list : ListBody) : Type 0 where
  pub given : list.next_file ≤ jobs.next_file
  pub flush : IfSome jobs.flush (λ known. IsSpare list known.files.block × IsSpare list known.files.segment)
  pub compaction : IfSome jobs.compaction (λ known. IsSpare list known.file)
  -- a level that a list may have
  pub level : IfSome jobs.compaction (λ known. known.level ≤ 63)
  pub room : 1 ≤ open_jobs jobs
      → vec_len jobs.loose + length list.segments + length list.blocks + 2 * open_jobs jobs ≤ vec_capacity jobs.loose

-- There is room for each list that the commits of so many open jobs may make after this one, while so many files are loose, and for
-- its text: each commit adds a block, and a flush's a segment, and what a commit leaves out becomes loose.
pub record CommitFits (room : CommitRoom) (list : ListBody) (loose jobs : ℕ) : Type 0 where
  pub blocks : length list.blocks + jobs ≤ vec_capacity room.next.blocks
  pub segments : length list.segments + jobs ≤ vec_capacity room.next.segments
  pub files : loose + length list.segments + length list.blocks + 2 * jobs ≤ vec_capacity room.next.loose
  pub text : 29 + 12 * (length list.segments + jobs) + 9 * (length list.blocks + jobs) + 4 * (loose + 2 * jobs) ≤ room.text.room

-- There is room for a list by an edit, a block and a segment more, that names so many files of jobs which stay open: for what the
-- commits of some jobs make.
abbrev pub FitsEdit : CommitRoom → ListBody → ℕ → ℕ → Type 0
FitsEdit room list loose others = (jobs : ℕ) × (1 ≤ jobs) × (others ≤ 2 * jobs) × CommitFits room list loose jobs

-- each open job has room for what the commits of so many jobs make
pub record HaveRoomFor (count : ℕ) (jobs : Jobs) (list : ListBody) : Type 0 where
  pub flush : IfSome jobs.flush (λ known. (room : CommitRoom) × (known.room ≡ Some room) × CommitFits room list (vec_len jobs.loose) count)
  pub compaction : IfSome jobs.compaction (λ known. (room : CommitRoom) × (known.room ≡ Some room) × CommitFits room list (vec_len jobs.loose) count)

-- Each open job has room for what it and the other one make, and there is room for the information of their blocks.
pub record HasCommitRoom (jobs : Jobs) (list : ListBody) (known : Vec InfoParts Global) : Type 0 where
  pub rooms : HaveRoomFor (open_jobs jobs) jobs list
  pub infos : 1 ≤ open_jobs jobs → vec_len known + open_jobs jobs ≤ vec_capacity known

-- the same flush, whatever room it has
abbrev pub SameFlush : Option OpenFlush → Option OpenFlush → Type 0
SameFlush None later = later ≡ None
SameFlush (Some known) later = (room : Option CommitRoom) × (later ≡ Some (record known { room = room }))

abbrev pub SameCompaction : Option OpenCompaction → Option OpenCompaction → Type 0
SameCompaction None later = later ≡ None
SameCompaction (Some known) later = (room : Option CommitRoom) × (later ≡ Some (record known { room = room }))

-- the same jobs and files, whatever room there is
pub record SameJobs (old later : Jobs) : Type 0 where
  pub begun : later.begun ≡ old.begun
  pub next_file : later.next_file ≡ old.next_file
  pub loose : later.loose.items ≡ old.loose.items
  pub flush : SameFlush old.flush later.flush
  pub compaction : SameCompaction old.compaction later.compaction

-- the new segment of an open flush has no record, and one image
abbrev pub HasFreshSegment : Image → (Image → Type 0) → Jobs → Type 0
HasFreshSegment held may_leave jobs = IfSome jobs.flush (λ known. ((first : ℕ) → SegmentHolds first [] 1 (bytes_of held known.files.segment))
    × OnlyBytes known.files.segment (bytes_of held known.files.segment) may_leave)

-- the files of a flush that is known
abbrev pub files_of_flush : Option OpenFlush → List ℕ
files_of_flush None = []
files_of_flush (Some known) = known.files.block ∷ known.files.segment ∷ []

-- the file of a compaction that is known
abbrev pub files_of_compaction : Option OpenCompaction → List ℕ
files_of_compaction None = []
files_of_compaction (Some known) = known.file ∷ []

-- no job was begun, no file is loose, and this is the next file number
pub record HasNoJobs (jobs : Jobs) (next_file : ℕ) : Type 0 where
  pub begun : jobs.begun ≡ 0
  pub next_file_is : jobs.next_file ≡ next_file
  pub loose : jobs.loose.items ≡ []
  pub flush : jobs.flush ≡ None
  pub compaction : jobs.compaction ≡ None

-- A compaction as a task: how far it is, what it stands on, and what one step does.
use Rattle.std.specs.Prelude.{◌≡◌, ℕ, zero, suc, ◌+◌, ◌-◌, ◌*◌, ◌^◌, ◌<◌, ◌≤◌, ◌==◌, false, List, [], ◌∷◌, ◌++◌, length, take, drop, IsTrue}
use Rattle.std.specs.List.{flat_map}
use Rattle.span_types.specs.declared.spans.Row.{Row}
use Rattle.block_info.specs.InfoParts.{InfoParts}
use Rattle.store_model.specs.Holds.{Hold}
use Rattle.store_state.specs.Given.{compact_of, info_files}
use Rattle.store_state.specs.Made.{Call}
use Rattle.store_state.specs.Meaning.{Meaning, Called, IsOpen}
use Rattle.store_state.specs.Shown.{AreBlocks, AreFew}
use Rattle.store_state.specs.Written.{HoldRows, page_of}
use Rattle.store_state.specs.declared.jobs.CompactJob.{CompactJob}
use Rattle.store_state.specs.declared.rounds.Refusal.{Refusal}
use Rattle.store_state.specs.declared.rounds.Round.{Round}
use Rattle.store_state.specs.declared.rounds.Round.TheVariants.{Refused}
use Rattle.store_state.specs.declared.rounds.Step.{Step}
use Rattle.store_state.specs.declared.rounds.Step.TheVariants.{More, Ended as EndedStep}
use Rattle.compactor.specs.Rounds.{FoundBlocks, IsJoined, Job, Leads, Stage, pages_of}
use Rattle.compactor.specs.Rounds.{Stage as stage}

-- What a task has in hand: its job, and what it has read or writes.
pub data Task : Type 0 where
  Fresh : Task
  -- a job, the rows of each block that is read, and how many pages of the next one are read, with their bytes
  Reading : CompactJob → List (List Row) → ℕ → List ℕ → Task
  Writing : CompactJob → List ℕ → InfoParts → Task
  Failing : CompactJob → Refusal → Task
  Ended : Round → Task

abbrev pub job_of : CompactJob → Job
job_of job = record { number = job.out.number; file = job.out.file; level = job.level; pin = job.pin.number; blocks = job.pin.blocks }

-- the blocks that aren't read, where so many are
abbrev pub blocks_left : CompactJob → List (List Row) → List InfoParts
blocks_left job parts = drop (length parts) job.pin.blocks

-- the stage that it is at
abbrev pub stage_of : Task → Stage
stage_of Fresh = stage.Fresh
stage_of (Reading job parts pages bytes) = stage.Reading (job_of job) parts (blocks_left job parts) pages bytes
stage_of (Writing job bytes info) = stage.Writing (job_of job) (drop job.out.written bytes) info.rows
stage_of (Failing job why) = stage.Failing job.out.number why
stage_of (Ended round) = stage.Ended round

-- ---- what a task stands on

-- A page of the first of these blocks is to be read, or no page where there is none.
abbrev pub HasPage : List InfoParts → ℕ → Type 0
HasPage [] pages = pages ≡ 0
HasPage (info ∷ infos) pages = pages < pages_of info

-- Each part has rows, as many as the information of its block says.
abbrev pub AreCounted : List InfoParts → List (List Row) → Type 0
AreCounted infos [] = Unit {0}
AreCounted [] (rows ∷ parts) = ⊥
AreCounted (info ∷ infos) (rows ∷ parts) = (length rows ≡ info.rows) × (1 ≤ length rows) × AreCounted infos parts

-- so many pages of a file from its first on, each as it is read
abbrev pub first_pages : List ℕ → ℕ → List ℕ
first_pages bytes zero = []
first_pages bytes (suc pages) = first_pages bytes pages ++ page_of bytes pages

-- These are the first pages of the first of these blocks.
abbrev pub BeginsWith : (ℕ → List ℕ) → List InfoParts → ℕ → List ℕ → Type 0
BeginsWith shows [] pages bytes = Unit {0}
BeginsWith shows (info ∷ infos) pages bytes = bytes ≡ first_pages (shows info.file) pages

-- no block is in this file
abbrev pub AreApart : ℕ → List InfoParts → Type 0
AreApart file [] = Unit {0}
AreApart file (info ∷ infos) = ((file == info.file) ≡ false) × AreApart file infos

-- Where bytes are told: whatever blocks the files hold, these rows are those of the first ones, and these bytes the pages of the
-- next. The job's own file is empty, and no block is in it of those that were read.
pub record ShowsRead (shows : ℕ → List ℕ) (job : CompactJob) (parts : List (List Row)) (pages : ℕ) (bytes : List ℕ) : Type 0 where
  pub so_far : (all : List (List Row)) → HoldRows shows (info_files job.pin.blocks) all → parts ≡ take (length parts) all
  pub begins : BeginsWith shows (blocks_left job parts) pages bytes
  pub apart : AreApart job.out.file (take (length parts) job.pin.blocks)
  pub empty : shows job.out.file ≡ []

-- The port gave the job out, its file is empty, and so much of its blocks was read.
pub record IsReading {P : Type 0} (meaning : Meaning P) (job : CompactJob) (parts : List (List Row)) (pages : ℕ) (bytes : List ℕ) (port : P) : Type 0 where
  pub is_open : IsOpen meaning port (compact_of job)
  pub at_start : job.out.written ≡ 0
  pub few : AreFew job.level job.pin.blocks
  pub within : length parts ≤ length job.pin.blocks
  pub counted : AreCounted job.pin.blocks parts
  pub page : HasPage (blocks_left job parts) pages
  pub told : IsTrue (meaning.tells port) → ShowsRead (meaning.shows port) job parts pages bytes

-- Where bytes are told: whatever blocks the files hold, these are their rows, and the job's own file, in which none of them is,
-- holds the first bytes of the new one, as many as were written.
pub record ShowsWriting (shows : ℕ → List ℕ) (job : CompactJob) (parts : List (List Row)) (bytes : List ℕ) : Type 0 where
  pub their_rows : (others : List (List Row)) → HoldRows shows (info_files job.pin.blocks) others → others ≡ parts
  pub apart : AreApart job.out.file job.pin.blocks
  pub so_far : shows job.out.file ≡ take job.out.written bytes

-- The job's file holds the first bytes of the new block, as many as were written.
pub record IsWriting {P : Type 0} (meaning : Meaning P) (job : CompactJob) (bytes : List ℕ) (info : InfoParts) (port : P) : Type 0 where
  pub is_open : IsOpen meaning port (compact_of job)
  pub joins : length job.pin.blocks ≤ 4
  pub parts : List (List Row)
  pub one_each : length parts ≡ length job.pin.blocks
  pub some : 1 ≤ length (flat_map (λ rows. rows) parts)
  pub few : length (flat_map (λ rows. rows) parts) ≤ 1048576
  pub block : IsJoined job.out.file job.level parts bytes info
  pub within : job.out.written ≤ length bytes
  pub told : IsTrue (meaning.tells port) → ShowsWriting (meaning.shows port) job parts bytes

-- The port has what the task stands on. A task that hasn't begun asks of it that it says what is open in it.
abbrev pub Fits : {P : Type 0} → Meaning P → Task → P → Type 0
Fits meaning Fresh port = (held : List Hold) × meaning.holds port held
Fits meaning (Reading job parts pages bytes) port = IsReading meaning job parts pages bytes port
Fits meaning (Writing job bytes info) port = IsWriting meaning job bytes info port
Fits meaning (Failing job why) port = IsOpen meaning port (compact_of job)
Fits meaning (Ended round) port = Unit {0}

-- Where bytes are told, the task finds no block to be none. While it reads this wants that the job's blocks are blocks; after that,
-- that it found none to be none.
abbrev pub FindsBlocks : {P : Type 0} → Meaning P → Task → P → Type 0
FindsBlocks meaning Fresh port = Unit {0}
FindsBlocks meaning (Reading job parts pages bytes) port = IsTrue (meaning.tells port) → AreBlocks (meaning.shows port) job.pin.blocks
FindsBlocks meaning (Writing job bytes info) port = Unit {0}
FindsBlocks meaning (Failing job why) port = IsTrue (meaning.tells port) → FoundBlocks (Refused why)
FindsBlocks meaning (Ended round) port = IsTrue (meaning.tells port) → FoundBlocks round

-- ---- steps

-- One call of the port, with which the round goes on: whatever leads on from the stage after it leads on, after this call, from
-- the stage before it.
pub record OneEvent {P : Type 0} (meaning : Meaning P) (before : Task) (old : P) (after : Task) (new : P) : Type 0 where
  pub made : Call
  pub called : Called meaning old made.event made.reply new
  pub leads : (calls : List Call) (round : Round) → Leads (stage_of after) calls round → Leads (stage_of before) (made ∷ calls) round

-- A step makes one event. After the end of its round it makes none.
abbrev pub Steps : {P : Type 0} → Meaning P → Task → P → Task → P → Type 0
Steps meaning (Ended round) old after new = (after ≡ Ended round) × (new ≡ old)
Steps meaning before old after new = OneEvent meaning before old after new

-- a step answers how the round ended exactly where it has
abbrev pub Answers : Step → Task → Type 0
Answers (EndedStep round) task = task ≡ Ended round
Answers More Fresh = Unit {0}
Answers More (Reading job parts pages bytes) = Unit {0}
Answers More (Writing job bytes info) = Unit {0}
Answers More (Failing job why) = Unit {0}
Answers More (Ended round) = ⊥

-- How many steps are left at most: each block has fewer than 2^64 pages, as the new one has bytes, and four are joined at most.
abbrev pub steps_left : Task → ℕ
steps_left Fresh = 6 * 2 ^ 64 + 5
steps_left (Reading job parts pages bytes) = (length job.pin.blocks - length parts) * 2 ^ 64 + (2 ^ 64 - pages) + 2 ^ 64 + 4
steps_left (Writing job bytes info) = length bytes - job.out.written + 2
steps_left (Failing job why) = 1
steps_left (Ended round) = 0

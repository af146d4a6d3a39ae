-- Files, pins and jobs: each file has one use, none that has a use but a loose one is emptied, no two pins or jobs share a
-- number, and the numbers of files and jobs fit their types. That a file is given out once stands in `Fresh`.
use Rattle.std.specs.Prelude.{◌≡◌, ℕ, ◌+◌, ◌<◌, ◌≤◌, ◌==◌, true, false, List, [], ◌∷◌, Some, if◌then◌else◌}
use Rattle.store_model.specs.State.{State, Compaction, segment_files, block_files, flush_files, compaction_files, open_files, pinned_files, free_files, pin_numbers, flush_numbers, compaction_numbers, pinned_blocks, is_among}
use Rattle.store_model.specs.Choice.{in_files}
use Rattle.store_model.specs.After.{job_files}
use Rattle.store_model.specs.Event.{Event}
use Rattle.store_model.specs.Event.Event.{BeginFlush, BeginCompact, Reclaim}

-- how often a list names the number
abbrev pub times : ℕ → List ℕ → ℕ
times n [] = 0
times n (other ∷ numbers) = (if other == n then 1 else 0) + times n numbers

-- how many uses the file has
abbrev pub uses : ℕ → State → ℕ
uses file u =
    times file (segment_files u.segments) + times file (block_files u.blocks) + times file u.loose
    + times file (flush_files u.flush) + times file (compaction_files u.compaction)

pub record HasOwnFiles (u : State) : Type 0 where
  -- files 0 and 1 are the slots of the list, and nothing else
  pub slots : (file : ℕ) → file < 2 → uses file u ≡ 0
  pub first : 2 ≤ u.next_file
  -- files from the next one on were never given out
  pub new : (file : ℕ) → u.next_file ≤ file → uses file u ≡ 0
  pub once : (file : ℕ) → uses file u ≤ 1
  -- a pinned file is a block's, or it is loose
  pub pinned : (file : ℕ) → 1 ≤ times file (pinned_files u.pins)
      → 1 ≤ times file (block_files u.blocks) + times file u.loose

-- how many open jobs have the number
abbrev pub jobs_with : ℕ → State → ℕ
jobs_with n u = times n (flush_numbers u.flush) + times n (compaction_numbers u.compaction)

pub record HasOwnNumbers (u : State) : Type 0 where
  pub pins : (n : ℕ) → times n (pin_numbers u.pins) ≤ 1
  pub jobs : (n : ℕ) → jobs_with n u ≤ 1
  -- numbers above the count of jobs were never given out
  pub new : (n : ℕ) → u.begun < n → jobs_with n u ≡ 0

-- The blocks of a compaction's pin are the listed ones in its files.
pub record IsJoining (job : Compaction) (u : State) : Type 0 where
  pub is_open : is_among job.pin (pin_numbers u.pins) ≡ true
  pub listed : in_files (job_files job u) u.blocks ≡ pinned_blocks job.pin u.pins

-- A file's number has 32 bits, and a job's 64. Of the file numbers given out two are the slots', one is that of the segment that
-- was there at opening, and each job took another.
pub record FitsItsTypes (u : State) : Type 0 where
  pub files : u.next_file ≤ 4294967295
  pub jobs : u.begun + 3 ≤ u.next_file

pub record StateIsSound (u : State) : Type 0 where
  pub files : HasOwnFiles u
  pub numbers : HasOwnNumbers u
  pub fits : FitsItsTypes u
  pub joining : (job : Compaction) → u.compaction ≡ Some job → IsJoining job u

-- the files that an event may empty
abbrev pub emptied : Event → State → List ℕ
emptied BeginFlush u = u.next_file ∷ (u.next_file + 1) ∷ []
emptied BeginCompact u = u.next_file ∷ []
emptied Reclaim u = free_files u
emptied _ u = []

-- No pin names the file, the list names it neither as a segment nor as a block, and no open job was given it.
pub record IsOutOfUse (file : ℕ) (u : State) : Type 0 where
  pub pins : is_among file (pinned_files u.pins) ≡ false
  pub segments : is_among file (segment_files u.segments) ≡ false
  pub blocks : is_among file (block_files u.blocks) ≡ false
  pub jobs : is_among file (open_files u) ≡ false

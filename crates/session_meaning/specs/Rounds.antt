-- What a flush and a compaction make of the store.
use Rattle.std.specs.Prelude.{◌≡◌, ⊤, ℕ, ◌+◌, ◌≤◌, Bool, true, List, [], ◌∷◌, ◌++◌, None, length, take}
use Rattle.span_types.specs.First.{IsFirstOf}
use Rattle.span_types.specs.declared.spans.Row.{Row}
use Rattle.store_model.specs.After.{after_begin_compact, after_begin_flush, after_commit_compact, after_commit_flush, after_drop_compact, chosen_job, taken}
use Rattle.store_model.specs.Choice.{choice, in_files, most_rows}
use Rattle.store_model.specs.Event.{FlushParts, CompactParts}
use Rattle.store_model.specs.Event.{Event as event, Reply as reply, Refusal as refusal}
use Rattle.store_model.specs.Event.Event.{BeginCompact, BeginFlush, CommitCompact, CommitFlush, DropCompact, DropFlush, ReadPage, WritePiece}
use Rattle.store_model.specs.Event.Reply.{Compacting, Fine, Flushing}
use Rattle.store_model.specs.History.{count_of}
use Rattle.store_model.specs.State.{IsFreeNumber, block_files, block_rows, is_among}
use Rattle.store_model.specs.Step.{Machine, with_state}
use Rattle.store_model.specs.Told.{AreCounted}
use Rattle.store_state.specs.Replies.{begin_refusal}
use Rattle.store_state.specs.Rounds.{begin_cause}
use Rattle.store_state.specs.declared.errors.BeginError.{BeginError}
use Rattle.store_state.specs.declared.rounds.Refusal.{Refusal}
use Rattle.store_state.specs.declared.rounds.Refusal.TheVariants.{Fault, Memory, NotBlock}
use Rattle.store_state.specs.declared.rounds.Round.{Round}
use Rattle.store_state.specs.declared.rounds.Round.TheVariants.{Did, Nothing, Refused}
use Rattle.session_meaning.specs.At.{At, IsStep, IsStill}

-- ---- a job

pub data Job : Type 0 where
  -- of a flush
  OfRows : FlushParts → Job
  -- of a compaction
  OfBlocks : CompactParts → Job

-- the reply that gives it
abbrev pub given : Job → reply
given (OfRows job) = Flushing job
given (OfBlocks job) = Compacting job

-- the commit of its block, which has so many rows
abbrev pub commit_of : Job → ℕ → event
commit_of (OfRows job) size = CommitFlush job.number size
commit_of (OfBlocks job) size = CommitCompact job.number size

abbrev pub drop_of : Job → event
drop_of (OfRows job) = DropFlush job.number
drop_of (OfBlocks job) = DropCompact job.number

-- how many blocks it writes, or joins
abbrev pub blocks_of : Job → ℕ
blocks_of (OfRows job) = 1
blocks_of (OfBlocks job) = length job.files

-- The calls by which its block is made: pieces are written, and in a compaction pages are read of the blocks that it joins.
abbrev pub IsWorkOf : Job → event → Type 0
IsWorkOf (OfRows job) (WritePiece its own bytes) = (its ≡ job.number) × (own ≡ job.file)
IsWorkOf (OfRows job) e = ⊥
IsWorkOf (OfBlocks job) (WritePiece its own bytes) = (its ≡ job.number) × (own ≡ job.file)
IsWorkOf (OfBlocks job) (ReadPage its block page) = (its ≡ job.pin) × (is_among block job.files ≡ true)
IsWorkOf (OfBlocks job) e = ⊥

-- A flush's block has as many rows as there are first occurrences of its rows. That of a compaction has as many as were read.
abbrev pub IsSized : Job → ℕ → Type 0
IsSized (OfRows job) size = (firsts : List Row) × IsFirstOf job.rows firsts × (size ≡ length firsts)
IsSized (OfBlocks job) size = ⊤

-- It is given up where no call failed: out of memory, or since a block that is to be joined is none.
abbrev pub IsGivenUpFor : Job → Refusal → Type 0
IsGivenUpFor job Memory = ⊤
IsGivenUpFor (OfBlocks job) (NotBlock block at) = is_among block job.files ≡ true
IsGivenUpFor job _ = ⊥

-- ---- a round

-- What came of a job that was begun. Writing pieces of its block and reading pages changes nothing of the store, as long as no write
-- fails.
pub data IsEnded (job : Job) (begun : At) (round : Round) (after : At) : Type 0 where
  -- the block was written, and then listed
  listed : (size : ℕ) (written : At) → IsSized job size → IsStill begun written → IsStep written (commit_of job size) Fine after
      → round ≡ Did (blocks_of job) size → IsEnded job begun round after
  -- it was written, and the disk failed as it was to be listed: the job stays open, and the store writes no more
  unlisted : (size : ℕ) (written : At) → IsSized job size → IsStill begun written
      → IsStep written (commit_of job size) (reply.Refused refusal.Fault) after → round ≡ Refused Fault → IsEnded job begun round after
  -- a call by which it is made failed, and the job was given up: where it was a write, the store writes no more
  failed : (work : event) (made broken : At) → IsWorkOf job work → IsStill begun made
      → IsStep made work (reply.Refused refusal.Fault) broken → IsStep broken (drop_of job) Fine after → round ≡ Refused Fault
      → IsEnded job begun round after
  -- it was given up for another cause
  given_up : (why : Refusal) (made : At) → IsGivenUpFor job why → IsStill begun made → IsStep made (drop_of job) Fine after
      → round ≡ Refused why → IsEnded job begun round after

-- What came of a round that begins with this event.
pub data IsRound (begin : event) (before : At) (round : Round) (after : At) : Type 0 where
  -- there was nothing to do, or no job was begun
  nothing : IsStep before begin reply.Nothing after → round ≡ Nothing → IsRound begin before round after
  no_job : (why : BeginError) → IsStep before begin (reply.Refused (begin_refusal why)) after → round ≡ Refused (begin_cause why)
      → IsRound begin before round after
  job : (job : Job) (begun : At) → IsStep before begin (given job) begun → IsEnded job begun round after → IsRound begin before round after

-- what came of a flush
abbrev pub IsFlushed : At → Round → At → Type 0
IsFlushed before round after = IsRound BeginFlush before round after

-- Where what the blocks hold is told each listed block has as many rows as its information says, and no block is found to be none.
abbrev pub IsTold : Round → At → Type 0
IsTold (Did blocks rows) after = AreCounted after.machine.state.blocks
IsTold (Refused (NotBlock file at)) after = ⊥
IsTold _ after = ⊤

-- What came of a compaction. `told` says that what the blocks hold is told.
abbrev pub IsCompacted : Bool → At → Round → At → Type 0
IsCompacted told before round after = IsRound BeginCompact before round after × (told ≡ true → IsTold round after)

-- ---- what follows

-- What a flush did that listed a block: rows waited in the head, of the first ones the first occurrences were counted, and the store
-- is as after a begin and a commit of a block with them.
pub record HasListed (m : Machine) (blocks count : ℕ) (m' : Machine) : Type 0 where
  pub some : 1 ≤ length m.state.head
  pub firsts : List Row
  pub are_first : IsFirstOf (take most_rows m.state.head) firsts
  pub counted : count ≡ length firsts
  pub one : blocks ≡ 1
  pub rows : List Row
  pub of_head : IsFirstOf (take most_rows m.state.head) rows
  pub leaves : m' ≡ with_state (after_commit_flush (count_of m.history) (taken m.state) count rows (after_begin_flush m.state)) m

-- What a compaction did that listed a block: there were blocks to be joined, they were all joined, and the store is as after a begin
-- and a commit of a block with the first occurrences of their rows, which were counted where what the blocks hold is told.
pub record HasJoined (told : Bool) (m : Machine) (blocks count : ℕ) (m' : Machine) : Type 0 where
  pub some : 1 ≤ length (choice m.state.blocks)
  pub all : blocks ≡ length (choice m.state.blocks)
  pub pin : ℕ
  pub is_free : IsFreeNumber pin m.state.pins
  pub rows : List Row
  pub of_blocks : IsFirstOf (block_rows (in_files (block_files (choice m.state.blocks)) m.state.blocks)) rows
  pub counted : told ≡ true → count ≡ length rows
  pub leaves : m' ≡ with_state (after_commit_compact (chosen_job pin m.state) count rows (after_begin_compact pin m.state)) m

-- What a compaction left that began a job and dropped it, while the store went on writing: there were blocks to be joined, and the store is
-- as after that begin and that drop. So nothing of it changed but that one more job was begun, and that the job's file, the next one, is
-- loose.
pub record HasDropped (m m' : Machine) : Type 0 where
  pub writes : m.read_only ≡ None
  pub some : 1 ≤ length (choice m.state.blocks)
  pub pin : ℕ
  pub is_free : IsFreeNumber pin m.state.pins
  pub drops : m' ≡ with_state (after_drop_compact (chosen_job pin m.state) (after_begin_compact pin m.state)) m
  pub leaves : m' ≡ with_state (record m.state {
    loose = m.state.loose ++ m.state.next_file ∷ [];
    next_file = m.state.next_file + 1;
    begun = m.state.begun + 1;
  }) m

-- It was done, or there was nothing to do, or memory ran out.
abbrev pub IsDoneOrStarved : Round → Type 0
IsDoneOrStarved (Refused Memory) = ⊤
IsDoneOrStarved (Refused _) = ⊥
IsDoneOrStarved _ = ⊤

-- What a compaction does from its begin to its end.
use Rattle.std.specs.Prelude.{◌≡◌, ℕ, ◌+◌, ◌<◌, ◌≤◌, max, List, [], ◌∷◌, ◌++◌, length, take, drop, Result, Ok, Err}
use Rattle.std.specs.List.{flat_map}
use Rattle.span_types.specs.First.{IsFirstOf}
use Rattle.span_types.specs.declared.spans.Row.{Row}
use Rattle.block_info.specs.InfoParts.{InfoParts}
use Rattle.block_format.specs.Blocks.{BlockHasInfo}
use Rattle.block_read.specs.Answers.{made_of}
use Rattle.block_read.specs.BlockReadings.{listed_at}
use Rattle.store_model.specs.Event.Event.{BeginCompact, ReadPage, WritePiece, CommitCompact, DropCompact}
use Rattle.store_model.specs.Event.{CompactParts}
use Rattle.store_model.specs.Event.{Reply as reply}
use Rattle.store_model.specs.Event.Reply.{Fine, Compacting, Page}
use Rattle.store_model.specs.Event.{Refusal as refusal}
use Rattle.store_state.specs.Given.{info_files}
use Rattle.store_state.specs.Made.{Call, call}
use Rattle.store_state.specs.Replies.{begin_refusal, write_refusal}
use Rattle.store_state.specs.Rounds.{begin_cause, write_cause}
use Rattle.store_state.specs.declared.errors.BeginError.{BeginError}
use Rattle.store_state.specs.declared.errors.WriteError.{WriteError}
use Rattle.store_state.specs.declared.rounds.Refusal.{Refusal}
use Rattle.store_state.specs.declared.rounds.Refusal.TheVariants.{Memory, Fault, NotBlock}
use Rattle.store_state.specs.declared.rounds.Round.{Round}
use Rattle.store_state.specs.declared.rounds.Round.TheVariants.{Did, Nothing, Refused}

-- ---- blocks

-- how many pages of a block are read: all that its information says, and one at least
abbrev pub pages_of : InfoParts → ℕ
pages_of info = max info.pages 1

-- What the bytes of these pages are read to: the rows of a block that has as many as its information says, or the first offset at
-- which they are malformed.
abbrev pub rows_at : InfoParts → List ℕ → Result (List Row) ℕ
rows_at info bytes = made_of (λ block. block.rows) (listed_at info.rows bytes)

-- The bytes are a block of the first occurrences of the rows of all parts, and the information describes it, in this file and at
-- this level.
pub record IsJoined (file level : ℕ) (parts : List (List Row)) (bytes : List ℕ) (info : InfoParts) : Type 0 where
  pub firsts : List Row
  pub are_first : IsFirstOf (flat_map (λ rows. rows) parts) firsts
  pub describes : BlockHasInfo info bytes firsts
  pub counted : info.rows ≡ length firsts
  pub its_file : info.file ≡ file
  pub its_level : info.level ≡ level

-- ---- stages

-- a compaction's job
pub record Job : Type 0 where
  pub number : ℕ
  pub file : ℕ
  pub level : ℕ
  -- its pin's number, and the blocks that it joins
  pub pin : ℕ
  pub blocks : List InfoParts

-- what is given out of it
abbrev pub parts_of : Job → CompactParts
parts_of job = record {
  number = job.number;
  file = job.file;
  level = job.level;
  pin = job.pin;
  files = info_files job.blocks;
}

-- How far a compaction is.
pub data Stage : Type 0 where
  Fresh : Stage
  -- a job, the rows of each block that is read, the blocks that aren't, and how many pages of the first of these are read, with
  -- their bytes
  Reading : Job → List (List Row) → List InfoParts → ℕ → List ℕ → Stage
  -- a job, the bytes that are still to be written, and how many rows the new block has
  Writing : Job → List ℕ → ℕ → Stage
  -- a job's number, and why it is given up
  Failing : ℕ → Refusal → Stage
  Ended : Round → Stage

-- From the stage on these calls are made, and the round ends so.
pub data Leads : Stage → List Call → Round → Type 0 where
  -- there is nothing to join, or no job is begun
  nothing : Leads Fresh (call BeginCompact reply.Nothing ∷ []) Nothing
  no_job : (why : BeginError) → Leads Fresh (call BeginCompact (reply.Refused (begin_refusal why)) ∷ []) (Refused (begin_cause why))
  begun : {calls : List Call} {round : Round} (job : Job) → Leads (Reading job [] job.blocks 0 []) calls round
      → Leads Fresh (call BeginCompact (Compacting (parts_of job)) ∷ calls) round
  -- the next page of the block is read
  read : {calls : List Call} {round : Round} (job : Job) (parts : List (List Row)) (info : InfoParts) (infos : List InfoParts) (pages : ℕ) (bytes page : List ℕ)
      → pages < pages_of info → Leads (Reading job parts (info ∷ infos) (pages + 1) (bytes ++ page)) calls round
      → Leads (Reading job parts (info ∷ infos) pages bytes) (call (ReadPage job.pin info.file pages) (Page page) ∷ calls) round
  unread : {calls : List Call} {round : Round} (job : Job) (parts : List (List Row)) (info : InfoParts) (infos : List InfoParts) (pages : ℕ) (bytes : List ℕ)
      → pages < pages_of info → Leads (Failing job.number Fault) calls round
      → Leads (Reading job parts (info ∷ infos) pages bytes) (call (ReadPage job.pin info.file pages) (reply.Refused refusal.Fault) ∷ calls) round
  -- the pages of the block are all read, and are one or aren't
  block : {calls : List Call} {round : Round} (job : Job) (parts : List (List Row)) (info : InfoParts) (infos : List InfoParts) (pages : ℕ) (bytes : List ℕ) (rows : List Row)
      → pages_of info ≤ pages → rows_at info bytes ≡ Ok rows → Leads (Reading job (parts ++ rows ∷ []) infos 0 []) calls round
      → Leads (Reading job parts (info ∷ infos) pages bytes) calls round
  no_block : {calls : List Call} {round : Round} (job : Job) (parts : List (List Row)) (info : InfoParts) (infos : List InfoParts) (pages : ℕ) (bytes : List ℕ) (at : ℕ)
      → pages_of info ≤ pages → rows_at info bytes ≡ Err at → Leads (Failing job.number (NotBlock info.file at)) calls round
      → Leads (Reading job parts (info ∷ infos) pages bytes) calls round
  -- there is no memory for the bytes or the rows of a block, or for the new block
  starved : {calls : List Call} {round : Round} (job : Job) (parts : List (List Row)) (infos : List InfoParts) (pages : ℕ) (bytes : List ℕ)
      → Leads (Failing job.number Memory) calls round → Leads (Reading job parts infos pages bytes) calls round
  -- all blocks are read, and the new one is built of their rows
  built : {calls : List Call} {round : Round} (job : Job) (parts : List (List Row)) (pages : ℕ) (pages_read bytes : List ℕ) (info : InfoParts)
      → IsJoined job.file job.level parts bytes info → Leads (Writing job bytes info.rows) calls round
      → Leads (Reading job parts [] pages pages_read) calls round
  -- the next piece is written, as long as bytes are left
  written : {calls : List Call} {round : Round} (job : Job) (bytes : List ℕ) (size : ℕ) → 1 ≤ length bytes
      → Leads (Writing job (drop 65536 bytes) size) calls round
      → Leads (Writing job bytes size) (call (WritePiece job.number job.file (take 65536 bytes)) Fine ∷ calls) round
  unwritten : {calls : List Call} {round : Round} (job : Job) (bytes : List ℕ) (size : ℕ) (why : WriteError) → 1 ≤ length bytes
      → Leads (Failing job.number (write_cause why)) calls round
      → Leads (Writing job bytes size) (call (WritePiece job.number job.file (take 65536 bytes)) (reply.Refused (write_refusal why)) ∷ calls) round
  -- then the new block is listed in the place of those that it joins
  listed : (job : Job) (size : ℕ) → Leads (Writing job [] size) (call (CommitCompact job.number size) Fine ∷ []) (Did (length job.blocks) size)
  unlisted : (job : Job) (size : ℕ) (why : WriteError)
      → Leads (Writing job [] size) (call (CommitCompact job.number size) (reply.Refused (write_refusal why)) ∷ []) (Refused (write_cause why))
  -- a job is given up
  dropped : (number : ℕ) (why : Refusal) → Leads (Failing number why) (call (DropCompact number) Fine ∷ []) (Refused why)
  over : (round : Round) → Leads (Ended round) [] round

-- A whole compaction makes these calls, and ends so.
abbrev pub IsCompactRound : List Call → Round → Type 0
IsCompactRound calls round = Leads Fresh calls round

-- The round didn't find that a block is none.
abbrev pub FoundBlocks : Round → Type 0
FoundBlocks (Refused (NotBlock file at)) = ⊥
FoundBlocks _ = Unit {0}

-- Private mechanism: what contracts see of a phase, what comes of a page and of a built block, and how far a round came. No public
-- clause cites it.
use Rattle.std.specs.Prelude.{◌≡◌, ℕ, ◌<◌, ◌≤◌, List, [], ◌∷◌, ◌++◌, length, Ok, Err}
use Rattle.span_types.specs.declared.spans.Row.{Row}
use Rattle.span_fields.specs.declared.breaks.Break.{Break}
use Rattle.span_fields.specs.declared.breaks.Break.TheVariants as breaks
use Rattle.block_info.specs.InfoParts.{InfoParts}
use Rattle.block_format.specs.Blocks.{BlockHolds}
use Rattle.store_state.specs.Made.{AreMade, Call}
use Rattle.store_state.specs.Meaning.{Meaning}
use Rattle.store_state.specs.declared.jobs.CompactJob.{CompactJob}
use Rattle.store_state.specs.declared.rounds.Refusal.{Refusal}
use Rattle.store_state.specs.declared.rounds.Refusal.TheVariants.{Memory, NotBlock}
use Rattle.store_state.specs.declared.rounds.Round.{Round}
use Rattle.compactor.specs.Rounds.{Leads, pages_of, rows_at}
use Rattle.compactor.specs.Rounds.{Stage as stage}
use Rattle.compactor.specs.Tasks.{FindsBlocks, Fits, Task, blocks_left, stage_of}
use Rattle.compactor.specs.Tasks.Task.{Fresh, Reading, Writing, Failing, Ended}
use Rattle.compactor.specs.declared.task.Phase.{Phase}
use Rattle.compactor.specs.declared.task.Phase.TheVariants as phase

abbrev pub task_of : Phase → Task
task_of phase.Fresh = Fresh
task_of (phase.Reading reading) = Reading reading.job reading.parts.items reading.pages reading.bytes.items
task_of (phase.Writing job block) = Writing job block.bytes block.info
task_of (phase.Failing job why) = Failing job why
task_of (phase.Ended round) = Ended round

-- it holds of the first of these blocks
abbrev pub OfFirst : List InfoParts → (InfoParts → Type 0) → Type 0
OfFirst [] Holds = ⊥
OfFirst (info ∷ infos) Holds = Holds info

-- why a round is refused that can't read the block in this file
abbrev pub unread_cause : ℕ → Break → Refusal
unread_cause file (breaks.At at) = NotBlock file at
unread_cause file breaks.Memory = Memory

-- the same information for another file and level
abbrev pub relabelled : ℕ → ℕ → InfoParts → InfoParts
relabelled file level i = record {
  file = file;
  level = level;
  form = i.form;
  rows = i.rows;
  pages = i.pages;
  index_page = i.index_page;
  index_pages = i.index_pages;
  bloom_page = i.bloom_page;
  bloom_pages = i.bloom_pages;
  stripes = i.stripes;
}

-- What comes of a job when so many pages of the next block, with these bytes, are read: there are more; there is no memory; or
-- they are all, and are a block or aren't.
pub data Turned (job : CompactJob) (parts : List (List Row)) (pages : ℕ) (bytes : List ℕ) : Task → Type 0 where
  MorePages : (info : InfoParts) (infos : List InfoParts) → blocks_left job parts ≡ info ∷ infos → pages < pages_of info
      → Turned job parts pages bytes (Reading job parts pages bytes)
  Starved : Turned job parts pages bytes (Failing job Memory)
  Malformed : (info : InfoParts) (infos : List InfoParts) (at : ℕ) → blocks_left job parts ≡ info ∷ infos → pages_of info ≤ pages
      → rows_at info bytes ≡ Err at → Turned job parts pages bytes (Failing job (NotBlock info.file at))
  NextBlock : (info : InfoParts) (infos : List InfoParts) (rows : List Row) → blocks_left job parts ≡ info ∷ infos → pages_of info ≤ pages
      → rows_at info bytes ≡ Ok rows → 1 ≤ length rows → length rows ≡ info.rows → BlockHolds bytes rows
      → Turned job parts pages bytes (Reading job (parts ++ rows ∷ []) 0 [])

-- A round came so far: these calls were made, and whatever leads on from where the task is leads, after them, from the begin.
pub record IsUnderWay {P : Type 0} (meaning : Meaning P) (start : P) (task : Task) (now : P) : Type 0 where
  pub fits : Fits meaning task now
  pub found : FindsBlocks meaning task now
  pub telling : meaning.tells now ≡ meaning.tells start
  pub calls : List Call
  pub made : AreMade meaning start calls now
  pub leads : (more : List Call) (round : Round) → Leads (stage_of task) more round → Leads stage.Fresh (calls ++ more) round

-- Events, replies and refusals, as plain values.
use Rattle.std.specs.Prelude.{ℕ, List}
use Rattle.span_types.specs.declared.spans.Span.{Span}
use Rattle.span_types.specs.declared.spans.Row.{Row}

pub data Event : Type 0 where
  -- a batch and a moment
  Push : List Span → ℕ → Event
  -- a moment
  Cut : ℕ → Event
  CutAll : Event
  Held : Event
  BeginFlush : Event
  BeginCompact : Event
  -- a job's number, its file, and the bytes
  WritePiece : ℕ → ℕ → List ℕ → Event
  -- a job's number, and how many rows its block's information says that it has
  CommitFlush : ℕ → ℕ → Event
  CommitCompact : ℕ → ℕ → Event
  -- a job's number
  DropFlush : ℕ → Event
  DropCompact : ℕ → Event
  Look : Event
  -- a pin's number, a block's file and a page
  ReadPage : ℕ → ℕ → ℕ → Event
  -- a pin's number
  Done : ℕ → Event
  Reclaim : Event

pub data Refusal : Type 0 where
  -- a write failed before, after which the disk had counted so many faults
  ReadOnly : ℕ → Refusal
  -- the history's length
  StoreFull : ℕ → Refusal
  -- how many rows are held
  LiveFull : ℕ → Refusal
  -- the number of the job that is open
  Busy : ℕ → Refusal
  -- the next file number
  FilesSpent : ℕ → Refusal
  Fault : Refusal
  Memory : Refusal

-- ---- what is given out

-- A look: its pin's number and the files of its blocks, the history's length, and the rows outside of blocks.
pub record LookParts : Type 0 where
  pub pin : ℕ
  pub files : List ℕ
  pub as_of : ℕ
  pub rows : List Row

-- A flush: its job's number, its file, and its rows.
pub record FlushParts : Type 0 where
  pub number : ℕ
  pub file : ℕ
  pub rows : List Row

-- A compaction: its job's number, its file, its block's level, and its pin's number and the files of its blocks.
pub record CompactParts : Type 0 where
  pub number : ℕ
  pub file : ℕ
  pub level : ℕ
  pub pin : ℕ
  pub files : List ℕ

pub data Reply : Type 0 where
  -- a push's number; rows moved or held; files emptied
  Count : ℕ → Reply
  -- what an event that answers nothing else answers
  Fine : Reply
  -- a begin that has no work
  Nothing : Reply
  -- a job that begins
  Flushing : FlushParts → Reply
  Compacting : CompactParts → Reply
  -- a look that is taken
  Looked : LookParts → Reply
  -- the bytes of a page
  Page : List ℕ → Reply
  Refused : Refusal → Reply

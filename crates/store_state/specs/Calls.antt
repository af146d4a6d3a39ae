-- How many device calls an event makes. The emptying of loose files that answers a fault has no bound.
use Rattle.std.specs.Prelude.{◌≡◌, ℕ, ◌+◌, ◌*◌, ◌==◌, ◌≤◌, if◌then◌else◌}
use Rattle.disk_model.specs.Counts.{RoseBy}
use Rattle.store_model.specs.Event.{Event, Reply}
use Rattle.store_model.specs.Event.Event.{Push, BeginFlush, BeginCompact, WritePiece, CommitFlush, CommitCompact, ReadPage, Reclaim}
use Rattle.store_model.specs.Event.Reply.{Count, Nothing, Refused}
use Rattle.store_model.specs.Event.Refusal.{Fault}

-- At most how many: a record is written and synced, and then its gate. A file is emptied by a cut and a sync, and a segment
-- created by three calls. A list is committed by six, after a sync of the block.
abbrev pub most_calls : Event → ℕ
most_calls (Push spans moment) = 4
most_calls BeginFlush = 5
most_calls BeginCompact = 2
most_calls (WritePiece job file bytes) = 1
most_calls (CommitFlush job rows) = 7
most_calls (CommitCompact job rows) = 7
most_calls (ReadPage pin file page) = 1
most_calls _ = 0

-- the calls that empty so many files, and then commit the list without them
abbrev pub reclaim_calls : ℕ → ℕ
reclaim_calls files = if files == 0 then 0 else 2 * files + 6

abbrev pub RoseAtMost : ℕ → ℕ → ℕ → Type 0
RoseAtMost count before now = (before ≤ now) × (now ≤ before + count)

-- The count of calls before and after an event. One that succeeds makes just so many, but for a page read, which may find the page
-- at hand. What is refused for another cause than a fault makes none, and neither does an event that reads and changes memory alone.
abbrev pub MadeCalls : Event → Reply → ℕ → ℕ → Type 0
MadeCalls (Push spans moment) (Count number) before now = RoseBy 4 before now
MadeCalls Reclaim (Count files) before now = RoseBy (reclaim_calls files) before now
MadeCalls Reclaim (Refused Fault) before now = before ≤ now
MadeCalls event (Refused Fault) before now = RoseAtMost (most_calls event) before now
MadeCalls _ (Refused why) before now = now ≡ before
MadeCalls _ Nothing before now = now ≡ before
MadeCalls BeginFlush _ before now = RoseBy 5 before now
MadeCalls BeginCompact _ before now = RoseBy 2 before now
MadeCalls (WritePiece job file bytes) _ before now = RoseBy 1 before now
MadeCalls (CommitFlush job rows) _ before now = RoseBy 7 before now
MadeCalls (CommitCompact job rows) _ before now = RoseBy 7 before now
MadeCalls (ReadPage pin file page) _ before now = RoseAtMost 1 before now
MadeCalls _ _ before now = now ≡ before

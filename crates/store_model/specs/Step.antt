-- The steps of a store: what each event answers, and what it leaves.
use Rattle.std.specs.Prelude.{◌≡◌, ℕ, ◌+◌, ◌==◌, ◌<◌, nat_le, nat_lt, Bool, true, false, if◌then◌else◌, not, List, ◌++◌, length, filter, take, Option, None, Some}
use Rattle.std.specs.List.Sorted.{IsPermutation}
use Rattle.span_types.specs.Faults.{Rose}
use Rattle.span_types.specs.First.{IsFirstOf}
use Rattle.span_types.specs.declared.spans.Row.{Row}
use Rattle.store_model.specs.History.{History, count_of, pushed}
use Rattle.store_model.specs.State.{State, LiveRow, Flush, Compaction, live_rows, block_rows, flush_rows, held_of, is_among, block_files, free_files, kept_files, pin_numbers, compaction_pins, IsFreeNumber}
use Rattle.store_model.specs.Choice.{choice, level_of, in_files, most_rows}
use Rattle.store_model.specs.Cut.{is_idle, AreMoved}
use Rattle.store_model.specs.After.{after_push, after_cut, after_begin_flush, after_commit_flush, after_drop_flush, after_begin_compact, after_commit_compact, after_drop_compact, after_look, after_done, job_files}
use Rattle.store_model.specs.Event.{Event, Reply}
use Rattle.store_model.specs.Event.Event.{Push, Cut, CutAll, Held, BeginFlush, BeginCompact, WritePiece, CommitFlush, CommitCompact, DropFlush, DropCompact, Look, ReadPage, Done, Reclaim}
use Rattle.store_model.specs.Event.Reply.{Count, Fine, Nothing, Flushing, Compacting, Looked, Page, Refused}
use Rattle.store_model.specs.Event.Refusal.{ReadOnly, StoreFull, LiveFull, Busy, FilesSpent, Fault, Memory}

-- the state, the history, and the count of faults that a store carries once a write failed
pub record Machine : Type 0 where
  pub state : State
  pub history : History
  pub read_only : Option ℕ

abbrev pub with_state : State → Machine → Machine
with_state u m = record { state = u; history = m.history; read_only = m.read_only }

-- a write failed: from now on the store is read-only, with this count of faults
abbrev pub broken : ℕ → Machine → Machine
broken faults m = record { state = m.state; history = m.history; read_only = Some faults }

-- ---- replies that are sure, in the order of their tests

abbrev pub if_read_only : Option ℕ → Option Reply → Option Reply
if_read_only (Some faults) later = Some (Refused (ReadOnly faults))
if_read_only None later = later

abbrev pub if_test : Bool → Reply → Option Reply → Option Reply
if_test test reply later = if test then Some reply else later

abbrev pub if_flushing : Option Flush → Option Reply → Option Reply
if_flushing (Some job) later = Some (Refused (Busy job.number))
if_flushing None later = later

abbrev pub if_compacting : Option Compaction → Option Reply → Option Reply
if_compacting (Some job) later = Some (Refused (Busy job.number))
if_compacting None later = later

-- room for another push: in the history, then among the rows held
abbrev pub if_full : ℕ → ℕ → ℕ → Option Reply
if_full count held more =
    if_test (nat_le 4294967295 count) (Refused (StoreFull count))
    (if_test (nat_lt 262144 (held + more)) (Refused (LiveFull held)) None)

-- work for a job, then file numbers for it
abbrev pub if_idle : ℕ → ℕ → Option Reply
if_idle work next =
    if_test (work == 0) Nothing (if_test (nat_le 4294967294 next) (Refused (FilesSpent next)) None)

abbrev pub early : Machine → Event → Option Reply
early m (Push spans moment) =
    if_read_only m.read_only (if_full (count_of m.history) (held_of m.state) (length spans))
early m BeginFlush =
    if_read_only m.read_only (if_flushing m.state.flush (if_idle (length m.state.head) m.state.next_file))
early m BeginCompact =
    if_read_only m.read_only
    (if_compacting m.state.compaction (if_idle (length (choice m.state.blocks)) m.state.next_file))
early m (WritePiece job file bytes) = if_read_only m.read_only None
early m (CommitFlush job size) = if_read_only m.read_only None
early m (CommitCompact job size) = if_read_only m.read_only None
early m Reclaim = if_read_only m.read_only None
early m _ = None

-- ---- what may go wrong besides

abbrev pub takes_memory : Event → Bool
takes_memory (Push spans moment) = true
takes_memory (Cut moment) = true
takes_memory CutAll = true
takes_memory BeginFlush = true
takes_memory BeginCompact = true
takes_memory Look = true
takes_memory Reclaim = true
takes_memory _ = false

-- a reclaim that has nothing to empty writes nothing
abbrev pub writes : State → Event → Bool
writes u (Push spans moment) = true
writes u BeginFlush = true
writes u BeginCompact = true
writes u (WritePiece job file bytes) = true
writes u (CommitFlush job size) = true
writes u (CommitCompact job size) = true
writes u Reclaim = not (length (free_files u) == 0)
writes u _ = false

abbrev pub reads : Event → Bool
reads (ReadPage pin block page) = true
reads _ = false

-- these files are loose no more
abbrev pub without_loose : List ℕ → State → State
without_loose files u = record u { loose = filter (λ file. not (is_among file files)) u.loose }

-- ---- what is done

-- a look's pin, and not a compaction's
pub record IsLookPin (pin : ℕ) (u : State) : Type 0 where
  pub is_open : is_among pin (pin_numbers u.pins) ≡ true
  pub no_job : is_among pin (compaction_pins u.compaction) ≡ false

-- A cut of the live rows that go, which end up in the head in the order of a cut.
abbrev pub IsCut : (LiveRow → Bool) → Machine → Reply → Machine → Type 0
IsCut goes m r m' =
    (moved : List Row) × AreMoved goes m.state.live moved × (r ≡ Count (length moved))
    × (m' ≡ with_state (after_cut goes moved m.state) m)

-- What a look gives: all rows outside of blocks, in any order, and all blocks, under a number that no open pin has.
abbrev pub IsLook : Machine → Reply → Machine → Type 0
IsLook m r m' =
    (pin : ℕ) × (rows : List Row) × IsFreeNumber pin m.state.pins
    × IsPermutation (flush_rows m.state.flush ++ m.state.head ++ live_rows m.state.live) rows
    × (r ≡ Looked (record {
      pin = pin;
      files = block_files m.state.blocks;
      as_of = count_of m.history;
      rows = rows;
    }))
    × (m' ≡ with_state (after_look pin m.state) m)

abbrev pub IsBegunFlush : Machine → Reply → Machine → Type 0
IsBegunFlush m r m' =
    (r ≡ Flushing (record {
      number = m.state.begun + 1;
      file = m.state.next_file;
      rows = take most_rows m.state.head;
    }))
    × (m' ≡ with_state (after_begin_flush m.state) m)

abbrev pub IsBegunCompact : Machine → Reply → Machine → Type 0
IsBegunCompact m r m' =
    (pin : ℕ) × IsFreeNumber pin m.state.pins
    × (r ≡ Compacting (record {
      number = m.state.begun + 1;
      file = m.state.next_file;
      level = level_of (choice m.state.blocks) + 1;
      pin = pin;
      files = block_files (choice m.state.blocks);
    }))
    × (m' ≡ with_state (after_begin_compact pin m.state) m)

-- The new block holds the first occurrences of the flush's rows.
abbrev pub IsCommittedFlush : ℕ → ℕ → Machine → Reply → Machine → Type 0
IsCommittedFlush number size m r m' =
    (job : Flush) × (firsts : List Row) × (m.state.flush ≡ Some job) × (job.number ≡ number)
    × IsFirstOf job.rows firsts × (r ≡ Fine)
    × (m' ≡ with_state (after_commit_flush (count_of m.history) job size firsts m.state) m)

-- The new block holds the first occurrences of the rows of the pin's blocks, in whose place it is listed.
abbrev pub IsCommittedCompact : ℕ → ℕ → Machine → Reply → Machine → Type 0
IsCommittedCompact number size m r m' =
    (job : Compaction) × (firsts : List Row) × (m.state.compaction ≡ Some job) × (job.number ≡ number)
    × IsFirstOf (block_rows (in_files (job_files job m.state) m.state.blocks)) firsts × (r ≡ Fine)
    × (m' ≡ with_state (after_commit_compact job size firsts m.state) m)

abbrev pub IsDroppedFlush : ℕ → Machine → Reply → Machine → Type 0
IsDroppedFlush number m r m' =
    (job : Flush) × (m.state.flush ≡ Some job) × (job.number ≡ number) × (r ≡ Fine)
    × (m' ≡ with_state (after_drop_flush job m.state) m)

abbrev pub IsDroppedCompact : ℕ → Machine → Reply → Machine → Type 0
IsDroppedCompact number m r m' =
    (job : Compaction) × (m.state.compaction ≡ Some job) × (job.number ≡ number) × (r ≡ Fine)
    × (m' ≡ with_state (after_drop_compact job m.state) m)

abbrev pub Happens : Machine → Event → Reply → Machine → Type 0
Happens m (Push spans moment) r m' =
    (r ≡ Count (count_of m.history))
    × (m' ≡ record {
      state = after_push (count_of m.history) spans moment m.state;
      history = pushed m.history spans;
      read_only = m.read_only;
    })
Happens m (Cut moment) r m' = IsCut (is_idle moment m.state.live) m r m'
Happens m CutAll r m' = IsCut (λ entry. true) m r m'
Happens m Held r m' = (r ≡ Count (held_of m.state)) × (m' ≡ m)
Happens m BeginFlush r m' = IsBegunFlush m r m'
Happens m BeginCompact r m' = IsBegunCompact m r m'
Happens m (WritePiece job file bytes) r m' = (r ≡ Fine) × (m' ≡ m)
Happens m (CommitFlush number size) r m' = IsCommittedFlush number size m r m'
Happens m (CommitCompact number size) r m' = IsCommittedCompact number size m r m'
Happens m (DropFlush number) r m' = IsDroppedFlush number m r m'
Happens m (DropCompact number) r m' = IsDroppedCompact number m r m'
Happens m Look r m' = IsLook m r m'
Happens m (ReadPage pin block page) r m' = (bytes : List ℕ) × (r ≡ Page bytes) × (m' ≡ m)
Happens m (Done pin) r m' =
    IsLookPin pin m.state × (r ≡ Fine) × (m' ≡ with_state (after_done pin m.state) m)
Happens m Reclaim r m' =
    (r ≡ Count (length (free_files m.state)))
    × (m' ≡ with_state (record m.state { loose = kept_files m.state }) m)

-- ---- a step

-- An event in a machine, and its reply. `before` and `faults` are the disk's counts of faults before and after it.
pub data Step (before faults : ℕ) (m : Machine) (event : Event) (reply : Reply) (m' : Machine) : Type 0 where
  -- the reply is sure, and nothing changes
  Sure : early m event ≡ Some reply → m' ≡ m → Step before faults m event reply m'
  Succeeds : early m event ≡ None → Happens m event reply m' → Step before faults m event reply m'
  -- out of memory
  Lacks : early m event ≡ None → takes_memory event ≡ true → reply ≡ Refused Memory → m' ≡ m → Step before faults m event reply m'
  -- a read failed
  Unread : reads event ≡ true → reply ≡ Refused Fault → Rose before faults → m' ≡ m → Step before faults m event reply m'
  -- a write failed, and all else is as before: a reclaim's files may all stay loose
  Breaks : early m event ≡ None → writes m.state event ≡ true → reply ≡ Refused Fault → Rose before faults → m' ≡ broken faults m
      → Step before faults m event reply m'
  -- A write of a reclaim failed. It empties files in their order: so many, not all, were emptied by then and are loose no more,
  -- and the others stay loose.
  Halts : early m event ≡ None → event ≡ Reclaim → writes m.state event ≡ true → reply ≡ Refused Fault → Rose before faults
      → (emptied : ℕ) → emptied < length (free_files m.state)
      → m' ≡ broken faults (with_state (without_loose (take emptied (free_files m.state)) m.state) m)
      → Step before faults m event reply m'

-- What a store's callers hold: looks and jobs that are open.
use Rattle.std.specs.Prelude.{◌≡◌, ℕ, ◌≤◌, ◌==◌, Bool, true, false, not, List, [], ◌∷◌, ◌++◌, filter, Some}
use Rattle.span_types.specs.declared.ids.Key.{Key}
use Rattle.span_types.specs.First.{first_at}
use Rattle.store_model.specs.History.{first_in, up_to, count_of}
use Rattle.store_model.specs.State.{Flush, Compaction, block_rows, block_files, pinned_blocks, pin_numbers, is_among}
use Rattle.store_model.specs.Event.{Event, Reply, LookParts, FlushParts, CompactParts}
use Rattle.store_model.specs.Event.Event.{CommitFlush, CommitCompact, DropFlush, DropCompact, Done}
use Rattle.store_model.specs.Event.Reply.{Fine, Flushing, Compacting, Looked}
use Rattle.store_model.specs.Step.{Machine, IsLookPin}

pub data Hold : Type 0 where
  OpenLook : LookParts → Hold
  OpenFlush : FlushParts → Hold
  OpenCompact : CompactParts → Hold

-- what a reply opens
abbrev pub opened : Reply → List Hold
opened (Flushing job) = OpenFlush job ∷ []
opened (Compacting job) = OpenCompact job ∷ []
opened (Looked look) = OpenLook look ∷ []
opened _ = []

abbrev pub is_flush : ℕ → Hold → Bool
is_flush n (OpenFlush job) = job.number == n
is_flush n _ = false

abbrev pub is_compact : ℕ → Hold → Bool
is_compact n (OpenCompact job) = job.number == n
is_compact n _ = false

abbrev pub is_look : ℕ → Hold → Bool
is_look n (OpenLook look) = look.pin == n
is_look n _ = false

-- whether the event ends the hold
abbrev pub ends : Event → Reply → Hold → Bool
ends (CommitFlush number size) Fine hold = is_flush number hold
ends (CommitCompact number size) Fine hold = is_compact number hold
ends (DropFlush number) reply hold = is_flush number hold
ends (DropCompact number) reply hold = is_compact number hold
ends (Done pin) reply hold = is_look pin hold
ends _ _ hold = false

abbrev pub holds_after : Event → Reply → List Hold → List Hold
holds_after event reply holds = filter (λ hold. not (ends event reply hold)) holds ++ opened reply

-- the files whose bytes stay while it is open, but for its own writes
abbrev pub files_of : Hold → List ℕ
files_of (OpenLook look) = look.files
files_of (OpenFlush job) = job.file ∷ []
files_of (OpenCompact job) = job.file ∷ job.files

-- the file that a job which begins is to write
abbrev pub own_files : Reply → List ℕ
own_files (Flushing job) = job.file ∷ []
own_files (Compacting job) = job.file ∷ []
own_files _ = []

-- ---- what is open in a machine

-- The look's rows and those of its blocks have the first occurrences of the history as it was when the look was taken.
pub record IsOpenLook (m : Machine) (look : LookParts) : Type 0 where
  pub open_pin : IsLookPin look.pin m.state
  pub its_files : block_files (pinned_blocks look.pin m.state.pins) ≡ look.files
  pub past : look.as_of ≤ count_of m.history
  pub firsts : (k : Key) → first_at k (look.rows ++ block_rows (pinned_blocks look.pin m.state.pins))
      ≡ first_in k (up_to look.as_of m.history)

pub record IsOpenFlush (m : Machine) (mine : FlushParts) : Type 0 where
  pub job : Flush
  pub is_open : m.state.flush ≡ Some job
  pub its_number : job.number ≡ mine.number
  pub its_file : job.file ≡ mine.file
  pub its_rows : job.rows ≡ mine.rows

pub record IsOpenCompact (m : Machine) (mine : CompactParts) : Type 0 where
  pub job : Compaction
  pub is_open : m.state.compaction ≡ Some job
  pub its_number : job.number ≡ mine.number
  pub its_file : job.file ≡ mine.file
  pub its_level : job.level ≡ mine.level
  pub its_pin : job.pin ≡ mine.pin
  pub open_pin : is_among mine.pin (pin_numbers m.state.pins) ≡ true
  pub its_files : block_files (pinned_blocks mine.pin m.state.pins) ≡ mine.files

abbrev pub OpenIn : Machine → Hold → Type 0
OpenIn m (OpenLook look) = IsOpenLook m look
OpenIn m (OpenFlush job) = IsOpenFlush m job
OpenIn m (OpenCompact job) = IsOpenCompact m job

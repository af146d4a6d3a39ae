-- What a port shows, and what one call makes of it.
use Rattle.std.specs.Prelude.{◌≡◌, ◌≢◌, ℕ, ◌+◌, ◌≤◌, ◌==◌, List, [], ◌++◌, Bool, true, false, if◌then◌else◌, IsTrue}
use Rattle.std.specs.List.{Contains}
use Rattle.span_types.specs.Faults.{Rose}
use Rattle.store_entries.specs.declared.entry.Entry.{Entry}
use Rattle.store_model.specs.History.{History, grown}
use Rattle.store_model.specs.Told.{history_after, TellsLength}
use Rattle.store_model.specs.State.{is_among}
use Rattle.store_model.specs.Event.{Event, Reply}
use Rattle.store_model.specs.Event.Event.{WritePiece, ReadPage}
use Rattle.store_model.specs.Event.Reply.{Fine, Refused}
use Rattle.store_model.specs.Event.Refusal.{Fault}
use Rattle.block_info.specs.InfoParts.{InfoParts}
use Rattle.store_state.specs.Calls.{MadeCalls}
use Rattle.store_state.specs.Kept.{Kept}
use Rattle.store_state.specs.Shown.{IsLookTaken}
use Rattle.store_state.specs.Written.{IsPageRead}
use Rattle.store_model.specs.Holds.{Hold, ends, holds_after, files_of, own_files}

-- what a port knows: a history, and its own open looks and jobs
pub record View : Type 0 where
  pub history : History
  pub holds : List Hold

-- what a port shows
pub record Meaning (P : Type 0) : Type 1 where
  pub knows : P → View → Type 0
  -- all these looks and jobs are open in it at once, whatever bytes it stands on
  pub holds : P → List Hold → Type 0
  -- whether contracts speak of bytes, and then the bytes of a file
  pub tells : P → Bool
  pub shows : P → ℕ → List ℕ
  -- the listed blocks by their information, in list order, where a port tells them
  pub lists : P → List InfoParts → Type 0
  -- where bytes are told, too, the rows of these blocks and the rows outside of blocks, where a port tells them
  pub keeps : P → Kept → Type 0
  -- whether it still writes: no write failed
  pub writes : P → Type 0
  -- how often a device call failed, how many pages were read, and how many device calls were made
  pub faults : P → ℕ
  pub reads : P → ℕ
  pub calls : P → ℕ
  -- what a port says of one call besides, such as that it is a step of the machine that it stands for
  pub did : P → Event → Reply → P → Type 0

-- what the port gave out, and nobody gave back
abbrev pub IsOpen : {P : Type 0} → Meaning P → P → Hold → Type 0
IsOpen meaning port hold = (held : List Hold) × meaning.holds port held × Contains held hold

-- What a call tells of the history: others may have added entries before it, then comes its own, if it adds one.
abbrev pub Learns : Event → Reply → History → History → Type 0
Learns event reply h h' =
    (others : List Entry) × (h' ≡ history_after event reply (grown h others))
    × TellsLength event reply (grown h others)

-- What a call makes of a file that stays held: a piece goes after the file's bytes. Nothing is said of the bytes of a file
-- once a write of it failed; a piece that is refused for another cause leaves it as it is.
abbrev pub Rewritten : Event → Reply → ℕ → List ℕ → List ℕ → Type 0
Rewritten (WritePiece number own bytes) Fine file old new = new ≡ (if own == file then old ++ bytes else old)
Rewritten (WritePiece number own bytes) (Refused Fault) file old new = (own == file) ≡ false → new ≡ old
Rewritten _ _ file old new = new ≡ old

abbrev pub reads_of : Event → ℕ
reads_of (ReadPage pin block page) = 1
reads_of _ = 0

-- What a port lists and keeps is as it was.
pub record LeavesKept {P : Type 0} (meaning : Meaning P) (old new : P) : Type 0 where
  pub lists : (infos : List InfoParts) → (meaning.lists old infos → meaning.lists new infos) × (meaning.lists new infos → meaning.lists old infos)
  pub keeps : (kept : Kept) → (meaning.keeps old kept → meaning.keeps new kept) × (meaning.keeps new kept → meaning.keeps old kept)

-- One call.
pub record Called {P : Type 0} (meaning : Meaning P) (old : P) (event : Event) (reply : Reply) (new : P) : Type 0 where
  pub did : meaning.did old event reply new
  -- the history that is known grows, and what is open stays open but for what the call ends
  pub learns : (v : View) → meaning.knows old v → (v' : View) × meaning.knows new v'
      × Learns event reply v.history v'.history × (v'.holds ≡ holds_after event reply v.holds)
  -- the same of what is open where no history is known
  pub holds : (held : List Hold) → meaning.holds old held → meaning.holds new (holds_after event reply held)
  pub telling : meaning.tells new ≡ meaning.tells old
  -- once a write failed it doesn't write again
  pub ended : (held : List Hold) → meaning.holds old held → meaning.writes new → meaning.writes old
  -- the files of what stays open
  pub bytes : IsTrue (meaning.tells old) → (hold : Hold) → IsOpen meaning old hold → ends event reply hold ≡ false →
      (file : ℕ) → is_among file (files_of hold) ≡ true
      → Rewritten event reply file (meaning.shows old file) (meaning.shows new file)
  -- a page is that of its file, and a look shows each history that is known after it
  pub page : IsTrue (meaning.tells old) → IsPageRead event reply (meaning.shows old)
  pub look : IsTrue (meaning.tells new) → (v : View) → meaning.knows new v →
      IsLookTaken reply (meaning.shows new) v.history
  -- the file of a job that begins
  pub empty : IsTrue (meaning.tells old) → (file : ℕ) → is_among file (own_files reply) ≡ true → meaning.shows new file ≡ []
  -- faults are counted, and one is answered just where the count rose
  pub later : meaning.faults old ≤ meaning.faults new
  pub quiet : reply ≢ Refused Fault → meaning.faults new ≡ meaning.faults old
  pub cause : reply ≡ Refused Fault → Rose (meaning.faults old) (meaning.faults new)
  -- so many device calls; an emptying of loose files that answers a fault has no bound
  pub calls : MadeCalls event reply (meaning.calls old) (meaning.calls new)
  -- a page read alone may count as a read, and as one
  pub reads_rise : meaning.reads old ≤ meaning.reads new
  pub reads_bound : meaning.reads new ≤ meaning.reads old + reads_of event

-- What is done in a session, line by line: something is asked, or its store is closed and opened again.
use Rattle.std.specs.Prelude.{Bool, true, false, not, ◌&&◌, ◌≡◌, ⊤, ℕ, ◌≤◌, List, None}
use Rattle.disk_model.specs.Images.{Image}
use Rattle.session_text.specs.declared.refusal.Refusal.{Refusal}
use Rattle.session_text.specs.declared.refusal.Refusal.TheVariants.{Closed, DiskFault, Memory, NotStore}
use Rattle.session_text.specs.declared.reply.Reply.{Reply}
use Rattle.session_text.specs.declared.reply.Reply.TheVariants.{Refused, Reopened}
use Rattle.store_images.specs.Stored.{ImageStandsFor}
use Rattle.store_core.specs.Opening.{BeginsAs, BeginsEmpty}
use Rattle.store_model.specs.History.{count_of}
use Rattle.store_model.specs.Laws.{Agrees}
use Rattle.store_reopen.specs.Through.{MayHaveAdded}
use Rattle.session_meaning.specs.Act.{Act}
use Rattle.session_meaning.specs.Act.Act.{Ask, Reopen, Unread}
use Rattle.session_meaning.specs.At.{At, IsUnchanged, history_of}
use Rattle.session_meaning.specs.Causes.{is_disk_fault}
use Rattle.session_meaning.specs.InOrder.{InOrder}
use Rattle.session_meaning.specs.Listed.{ListsState}
use Rattle.session_meaning.specs.Place.{Place, ever_unsure, history_at}
use Rattle.session_meaning.specs.Pushes.{unsure_after_line}
use Rattle.session_meaning.specs.Session.{IsAnsweredOrRefused}

-- ---- a reopening

-- An opening finds all that was kept: the history, or that and then the entry that wasn't sure. The store begins as one that is opened
-- at this moment on an image that stands for it, one of these: in a run, of those that a crash may have left (`found` of `Recovers`). If the store wrote until then, and no opening failed in a call of the disk
-- since, the image lists its state.
pub record FindsAgain (left : Image → Type 0) (moment : ℕ) (before : Place) (after : At) : Type 0 where
  pub history : MayHaveAdded before.unsure (history_at before) (history_of after)
  pub image : Image
  pub possible : left image
  pub stands : ImageStandsFor image (history_of after)
  pub begins : BeginsAs image moment after.machine
  pub listed : before.is_listed ≡ true → before.store.machine.read_only ≡ None → ListsState image before.store.machine.state

-- The store is opened again, with so many entries. It writes, its head is empty, no file is loose and no pin is open; and no call of the
-- disk failed. What it finds is said where what the disk holds is told, which is what `told` says.
pub record IsOpenedAgain (told : Bool) (left : Image → Type 0) (moment : ℕ) (before : Place) (entries : ℕ) (after : At) : Type 0 where
  pub count : entries ≡ count_of (history_of after)
  pub few : entries ≤ 4294967295
  pub faults : after.faults ≡ before.store.faults
  pub begins : BeginsEmpty after.machine
  pub agrees : Agrees after.machine
  pub found : told ≡ true → FindsAgain left moment before after

-- Why an opening is refused: a call of the disk failed in it, which the count of faults says; or, for memory, at any time. It is never
-- refused for its bytes where what the disk holds is told, and so a store's; where it isn't, which bytes that may be is said by `FindsBytes`.
abbrev pub HasOpeningCause : Bool → Refusal → Type 0
HasOpeningCause told DiskFault = ⊤
HasOpeningCause told (NotStore file at) = told ≡ false
HasOpeningCause told Memory = ⊤
HasOpeningCause told _ = ⊥

-- The store is closed and opened again. Then each entry is sure. Refused, it stays closed, and all else is as it was, but that one call
-- of the disk failed where this is told, else none.
abbrev pub IsReopened : Bool → (Image → Type 0) → ℕ → Place → Reply → Place → Type 0
IsReopened told left moment before (Reopened entries) after =
    IsOpenedAgain told left moment before entries after.store
    × (after ≡ record { store = after.store; is_open = true; is_listed = true; unsure = None; pending = ever_unsure before })
IsReopened told left moment before (Refused why) after =
    HasOpeningCause told why × IsUnchanged (is_disk_fault why) before.store after.store
    × (after ≡ record before { store = after.store; is_open = false; is_listed = before.is_listed && not (is_disk_fault why) })
IsReopened told left moment before _ after = ⊥

-- ---- a line

-- What is asked of an open store is answered. A line that isn't read, just since the store is closed, is told so. An opening finds one of
-- these images.
abbrev pub IsDoneAmong : (Image → Type 0) → Bool → Act → Place → Reply → Place → Type 0
IsDoneAmong left told (Ask item) before reply after =
    (before.is_open ≡ true) × IsAnsweredOrRefused told item before.store reply after.store
    × (after ≡ record before { store = after.store; unsure = unsure_after_line before.unsure item reply })
IsDoneAmong left told (Reopen moment) before reply after = IsReopened told left moment before reply after
IsDoneAmong left told Unread before reply after = (before.is_open ≡ false) × (reply ≡ Refused Closed) × (after ≡ before)

-- the same, whichever image an opening finds
abbrev pub IsDone : Bool → Act → Place → Reply → Place → Type 0
IsDone = IsDoneAmong (λ image. ⊤)

-- Each is done in order, one reply each, from one place to another.
abbrev pub AreDone : Bool → Place → List Act → List Reply → Place → Type 0
AreDone told = InOrder (IsDone told)

-- And what the disk holds is told, and each opening finds one of these images.
abbrev pub AreDoneAmong : (Image → Type 0) → Place → List Act → List Reply → Place → Type 0
AreDoneAmong left = InOrder (IsDoneAmong left true)

-- What is done over a store that is open or closed: how the program does it. A law says that this is what a session means.
use Rattle.std.specs.Prelude.{◌≡◌, true, false, ℕ, List, None, Result, Ok, Err, IsTrue}
use Rattle.disk_model.specs.Images.{Image}
use Rattle.disk_model.specs.declared.disk.Device.{Ghosts}
use Rattle.session_text.specs.declared.refusal.Refusal.TheVariants as refusal
use Rattle.session_text.specs.declared.reply.Reply.{Reply}
use Rattle.session_text.specs.declared.reply.Reply.TheVariants.{Refused, Reopened}
use Rattle.store_model.specs.State.{State}
use Rattle.store_core.specs.Cores.{CoreShows, CoreStandsFor, unsure_of}
use Rattle.store_core.specs.Port.{port_of}
use Rattle.store_files.specs.declared.error.OpenError.{OpenError}
use Rattle.store_files.specs.declared.error.OpenError.TheVariants.{Fault, Memory, NotStore}
use Rattle.store_core.specs.declared.store.Core.{Core}
use Rattle.store_reopen.specs.Reopened.{Reopens, disk_of}
use Rattle.store_reopen.specs.Through.{KeepsThrough}
use Rattle.store_reopen.specs.declared.store.Store.{Store}
use Rattle.store_reopen.specs.declared.store.Store.TheVariants.{Closed, Open}
use Rattle.session_meaning.specs.Act.{Act}
use Rattle.session_meaning.specs.Act.Act.{Ask, Reopen, Unread}
use Rattle.session_meaning.specs.InOrder.{InOrder}
use Rattle.session_meaning.specs.Listed.{ListsState}
use Rattle.session_meaning.specs.Place.{Place, history_at}
use Rattle.session_meaning.specs.Progress.{HasAnsweredOne}

-- what a reopening is told
abbrev pub reopened_reply : Result ℕ OpenError → Reply
reopened_reply (Ok entries) = Reopened entries
reopened_reply (Err Fault) = Refused refusal.DiskFault
reopened_reply (Err (NotStore file at)) = Refused (refusal.NotStore file at)
reopened_reply (Err Memory) = Refused refusal.Memory

-- One thing is done: asked of the core of an open store, or the store is opened again, or a line isn't read since it is closed.
abbrev pub IsDoneOver : {D : Type 0} → Ghosts D → Act → Store D → Reply → Store D → Type 0
IsDoneOver {D} g (Ask item) (Open old) reply after = (new : Core D) × (after ≡ Open new) × HasAnsweredOne (port_of g) old item reply new
IsDoneOver g (Ask item) (Closed disk) reply after = ⊥
IsDoneOver g (Reopen moment) before reply after =
    (result : Result ℕ OpenError) × (reply ≡ reopened_reply result) × Reopens g (disk_of before) moment after result
IsDoneOver g Unread (Open core) reply after = ⊥
IsDoneOver g Unread (Closed disk) reply after = (reply ≡ Refused refusal.Closed) × (after ≡ Closed disk)

-- Each is, in order, one reply each.
abbrev pub AreDoneOver : {D : Type 0} → Ghosts D → Store D → List Act → List Reply → Store D → Type 0
AreDoneOver g = InOrder (IsDoneOver g)

-- ---- a store at a place of a session

-- The store is so at this place, whatever its disk holds: open, its memory shows the place's machine; or closed.
abbrev pub ShowsPlace : {D : Type 0} → Ghosts D → Store D → Place → Type 0
ShowsPlace g (Open core) place = (place.is_open ≡ true) × CoreShows g core place.store.machine
ShowsPlace g (Closed disk) place = place.is_open ≡ false

-- Whatever a crash may leave of the disk now lists the state.
abbrev pub DiskLists : {D : Type 0} → Ghosts D → D → State → Type 0
DiskLists g disk u = (image : Image) → g.may_leave disk image → ListsState image u

-- Where the disk tells its bytes an open one stands for the place's machine, and the disk of a closed one lists the place's state, if
-- the store wrote to its end and no opening failed in a call of the disk since.
abbrev pub StandsForPlace : {D : Type 0} → Ghosts D → Store D → Place → Type 0
StandsForPlace g (Open core) place = (place.is_open ≡ true) × (place.unsure ≡ unsure_of core.state) × CoreStandsFor g core place.store.machine
StandsForPlace g (Closed disk) place =
    (place.is_open ≡ false)
    × (IsTrue (g.tells disk) → place.is_listed ≡ true → place.store.machine.read_only ≡ None → DiskLists g disk place.store.machine.state)

-- The place counts the faults of the store's disk.
abbrev pub CountsFaults : {D : Type 0} → Ghosts D → Store D → Place → Type 0
CountsFaults g store place = place.store ≡ record { machine = place.store.machine; faults = g.faults (disk_of store) }

pub record IsShownAt {D : Type 0} (g : Ghosts D) (store : Store D) (place : Place) : Type 0 where
  pub faults : CountsFaults g store place
  pub shows : ShowsPlace g store place

-- And whatever a crash left since the disk was as it was at the start stands for the history as it went on.
pub record IsKeptAt {D : Type 0} (g : Ghosts D) (start : D) (least : ℕ) (store : Store D) (place : Place) : Type 0 where
  pub faults : CountsFaults g store place
  pub stands : StandsForPlace g store place
  pub keeps : KeepsThrough g start least place.pending (disk_of store) (history_at place) place.unsure

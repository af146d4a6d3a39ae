-- What is stored and what upkeep has left, after a run and whenever it is stopped.
use Rattle.std.specs.Prelude.{◌≡◌, ◌≢◌, ◌⊎◌, ⊤, ℕ, ◌≤◌, true, false, List, [], ◌∷◌, Option, None, Some, IfSome, IsTrue, Ok}
use Rattle.std.specs.List.{Contains}
use Rattle.span_types.specs.First.{IsFirstOf}
use Rattle.span_types.specs.declared.spans.Row.{Row}
use Rattle.disk_model.specs.Images.{Image}
use Rattle.disk_model.specs.Crash.{Reached}
use Rattle.disk_model.specs.declared.disk.Device.{Ghosts}
use Rattle.client_run.specs.Answers.{BlamesNoBlock}
use Rattle.session_text.specs.declared.refusal.Refusal.TheVariants.{Memory, NotStore}
use Rattle.session_text.specs.declared.reply.Reply.{Reply}
use Rattle.session_text.specs.declared.reply.Reply.TheVariants.{Refused, Reopened}
use Rattle.store_model.specs.History.{count_of}
use Rattle.store_model.specs.RowSets.{Within}
use Rattle.store_model.specs.State.{State, live_rows, state_rows}
use Rattle.store_images.specs.Stored.{ImageStandsFor, IsTidy, KeepsStored, MayStandFor}
use Rattle.store_core.specs.Opening.{BeginsAs, HasEntries, LeavesAlone, StoreBreaks, opened_state}
use Rattle.store_core.specs.Waiting.{rows_outside}
use Rattle.store_reopen.specs.Through.{StoodAmid}
use Rattle.session_meaning.specs.declared.ending.Ending.TheVariants.{NotOpened}
use Rattle.session_meaning.specs.Act.{Act}
use Rattle.session_meaning.specs.Act.Act.{Ask, Reopen}
use Rattle.session_meaning.specs.At.{At, history_of}
use Rattle.session_meaning.specs.Listed.{HaveKeyOf, ListsState}
use Rattle.session_meaning.specs.Done.{AreDoneAmong}
use Rattle.session_meaning.specs.Place.{ever_unsure, history_at, opened_at}
use Rattle.session_meaning.specs.Runs.{Outcome}

-- The run begins with what was stored: its first history is a base alone, each span of it once, that the disk's bytes stand for;
-- and the store begins as one that was opened on these bytes at this moment.
pub record Begins (held : Image) (moment : ℕ) (first : At) : Type 0 where
  pub stored : ImageStandsFor held (history_of first)
  pub once : IsFirstOf (history_of first).base (history_of first).base
  pub base_alone : (history_of first).entries ≡ []
  pub begins : BeginsAs held moment first.machine

-- It stands for the last history, or for it and then the entry that isn't sure.
abbrev pub StandsForLast : Outcome → Image → Type 0
StandsForLast o image = MayStandFor (history_at o.last) o.last.unsure image

-- Each of these images does.
abbrev pub Returns : (Image → Type 0) → Outcome → Type 0
Returns may_leave o = (image : Image) → may_leave image → StandsForLast o image

-- It stands for the last history as it was at some length, not below that of the first one; or as it was where a push answered
-- `disk-fault`, and then for that push too.
abbrev pub StandsWithin : Outcome → Image → Type 0
StandsWithin o image = StoodAmid (count_of (history_of o.first)) (history_at o.last) (ever_unsure o.last) image

-- Each of these images comes from one that might have been left at the start, and keeps what that one stored; or, in a run that opened
-- the store, it stands for a history in between. At which moment it may be left isn't said.
abbrev pub Leaves : (Image → Type 0) → (Image → Type 0) → Outcome → Type 0
Leaves at_start since o =
    (image : Image) → since image → Reached KeepsStored at_start image ⊎ (IsTrue o.opened × StandsWithin o image)

-- ---- upkeep

-- Each of these images lists the last state.
abbrev pub ListsLast : (Image → Type 0) → Outcome → Type 0
ListsLast may_leave o = (image : Image) → may_leave image → ListsState image o.last.store.machine.state

-- In each of these images a file has bytes only where the list that counts names it, as far as files were given out.
abbrev pub AreTidy : (Image → Type 0) → Type 0
AreTidy images = (image : Image) → images image → IsTidy image

-- A store that was opened on an image that lists the state begins in this one: with that state's blocks, segments and floor, with the
-- rows of the log from the floor on, and with no loose file and no job. Its next file is the list's, and so at most that of the state.
-- Each row that waited outside of blocks is live, and each live one has a key that the state had.
pub record BeginsListed (image : Image) (u : State) (moment : ℕ) (first : State) : Type 0 where
  pub lists : ListsState image u
  pub begins : first ≡ opened_state lists.list u.blocks lists.batches moment
  pub blocks : first.blocks ≡ u.blocks
  pub segments : first.segments ≡ u.segments
  pub floor : first.floor ≡ u.floor
  pub next_file : first.next_file ≡ lists.list.next_file
  pub given : first.next_file ≤ u.next_file
  pub waits : Within (rows_outside u) (live_rows first.live)
  pub known : (row : Row) → Contains (live_rows first.live) row → HaveKeyOf (state_rows u) row

-- ---- openings over whatever bytes

-- the bytes break nowhere
abbrev pub IsUnbroken : Image → Type 0
IsUnbroken image = (file at : ℕ) → StoreBreaks image file at → ⊥

-- A store that is opened again is refused for its bytes only where one of these images breaks, first at that place of that file; and it
-- is opened with so many entries only where one of them breaks nowhere and has so many. Nothing that is asked is told of a block that it is
-- none: an opening checks each block, and what is listed since was written as one.
abbrev pub FitsBytes : (Image → Type 0) → Act → Reply → Type 0
FitsBytes left (Reopen moment) (Refused (NotStore file at)) = (image : Image) × left image × StoreBreaks image file at
FitsBytes left (Reopen moment) (Reopened entries) = (image : Image) × left image × IsUnbroken image × HasEntries image entries
FitsBytes left (Ask (Ok request)) reply = BlamesNoBlock reply
FitsBytes left act reply = ⊤

-- A store that is closed for bytes that break at a place isn't opened, and if it is refused for its bytes again, then for that place.
abbrev pub StaysBroken : ℕ × ℕ → Act → Reply → Type 0
StaysBroken place (Reopen moment) (Refused (NotStore file at)) = (place.0 ≡ file) × (place.1 ≡ at)
StaysBroken place (Reopen moment) (Reopened entries) = ⊥
StaysBroken place act reply = ⊤

-- The place at which the bytes break for which a store is closed, after a line: that of the last opening that was refused for them. One
-- that is refused for memory leaves all bytes alone; after one that goes well, or fails in a call of the disk, there is none.
abbrev pub broken_at : Option (ℕ × ℕ) → Act → Reply → Option (ℕ × ℕ)
broken_at before (Reopen moment) (Refused (NotStore file at)) = Some (file, at)
broken_at before (Reopen moment) (Refused Memory) = before
broken_at before (Reopen moment) reply = None
broken_at before act reply = before

-- the same of each line and its reply, from the place before the first line on
abbrev pub FitBytes : (Image → Type 0) → Option (ℕ × ℕ) → List Act → List Reply → Type 0
FitBytes left before [] replies = ⊤
FitBytes left before (act ∷ acts) [] = ⊤
FitBytes left before (act ∷ acts) (reply ∷ replies) =
    FitsBytes left act reply × IfSome before (λ place. StaysBroken place act reply) × FitBytes left (broken_at before act reply) acts replies

abbrev pub broken_after : Option (ℕ × ℕ) → List Act → List Reply → Option (ℕ × ℕ)
broken_after before [] replies = before
broken_after before (act ∷ acts) [] = before
broken_after before (act ∷ acts) (reply ∷ replies) = broken_after (broken_at before act reply) acts replies

-- the bytes break first there
abbrev pub HoldsBroken : Image → ℕ × ℕ → Type 0
HoldsBroken held place = StoreBreaks held place.0 place.1

-- Over a disk that shows its bytes, whatever they are: each opening again that is refused for its bytes is refused for a place where some
-- break first that a crash may have left since the run began. From there on none goes well, and none is refused for another place, until one
-- fails in a call of the disk; and if none does, the bytes of the disk that is handed back break first at that place. One that goes well is
-- told how many entries some have that a crash may have left and that break nowhere; which ones of these isn't said. No query and no
-- compaction is told of a block that it is none. An input may end after any line.
pub record FindsBytes {D : Type 0} (g : Ghosts D) (disk later : D) (o : Outcome) : Type 0 where
  pub fit : IsTrue (g.tells disk) → FitBytes (g.left_since later (g.moment disk)) None o.acts o.replies
  pub closed : IsTrue (g.tells disk) → IfSome (broken_after None o.acts o.replies) (HoldsBroken (g.held later))

-- ---- a run

-- A run that didn't open the store leaves the disk alone, but where a call of the disk failed: at most a vacant slot of the list is cut to
-- its first byte. So it undoes nothing of the upkeep that earlier runs did.
abbrev pub LeavesUnopened : {D : Type 0} → Ghosts D → D → D → Outcome → Type 0
LeavesUnopened g disk later o = o.opened ≡ false → o.ending ≢ NotOpened → LeavesAlone g disk later

-- A run over a disk that shows its bytes, which were a store's. Where the store was opened the run begins with what they store,
-- and each image that a crash may leave of the disk that is handed back stands for that and all pushes that were accepted, or for that
-- and then the entry that isn't sure. If the store wrote to its end, and no opening failed in a call of the disk since it was last open,
-- each such image lists its last state: what upkeep was told to have done stands on the disk. Each image that a crash may have left at any moment of the run keeps what one could have left at
-- its start; or it stands for that with the first few of these pushes, and it may be with one that wasn't sure. And it is tidy where all
-- were at the start. Where the run opened its store again, it began on an image that a crash may have left since the start.
pub record Recovers {D : Type 0} (g : Ghosts D) (disk later : D) (o : Outcome) : Type 0 where
  pub begins : IsTrue o.opened → Begins (g.held disk) o.moment o.first
  pub returned : IsTrue o.opened → Returns (g.may_leave later) o
  pub kept_up : IsTrue o.opened → o.last.is_listed ≡ true → o.last.store.machine.read_only ≡ None → ListsLast (g.may_leave later) o
  pub unopened : LeavesUnopened g disk later o
  pub any_moment : Leaves (g.may_leave disk) (g.left_since later (g.moment disk)) o
  pub tidy : AreTidy (g.may_leave disk) → AreTidy (g.left_since later (g.moment disk))
  pub found : IsTrue o.opened → AreDoneAmong (g.left_since later (g.moment disk)) (opened_at o.first) o.acts o.replies o.last

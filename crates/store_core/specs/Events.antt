-- What one event makes of a core and of its disk.
use Rattle.std.specs.Prelude.{◌≡◌, ◌≢◌, ◌⊎◌, ◌+◌, ◌^◌, ℕ, List, length, Option, None, IsTrue, true, false}
use Rattle.disk_model.specs.Calls.{Counts}
use Rattle.disk_model.specs.Images.{Image, bytes_of}
use Rattle.disk_model.specs.Crash.{LeavesOnly}
use Rattle.disk_model.specs.declared.disk.Device.{Ghosts}
use Rattle.head_log.specs.Bodies.{body_bytes}
use Rattle.page_cache.specs.Frames.{Frame}
use Rattle.store_entries.specs.declared.entry.Entry.{Entry}
use Rattle.store_model.specs.History.{History}
use Rattle.store_model.specs.State.{is_among}
use Rattle.store_model.specs.Event.{Event, Reply}
use Rattle.store_model.specs.Event.Event.{Push, ReadPage, WritePiece}
use Rattle.store_model.specs.Event.Reply.{Refused}
use Rattle.store_model.specs.Event.Refusal.{Fault}
use Rattle.store_model.specs.Holds.{Hold, OpenIn, ends, files_of, own_files}
use Rattle.store_model.specs.Step.{Machine, Step}
use Rattle.store_model.specs.Told.{asked_entry}
use Rattle.store_state.specs.Meaning.{Rewritten, reads_of}
use Rattle.store_state.specs.Calls.{MadeCalls, RoseAtMost}
use Rattle.store_state.specs.Shown.{IsLookTaken}
use Rattle.store_state.specs.Written.{IsPageRead}
use Rattle.store_images.specs.Stored.{MayStandFor, IsTidy}
use Rattle.store_core.specs.Cores.{CoreStandsFor, CoreShows, unsure_of}
use Rattle.store_files.specs.Files.{IsEmptied}
use Rattle.store_core.specs.declared.state.CoreState.{CoreState}
use Rattle.store_core.specs.declared.store.Core.{Core}

-- Whenever a crash comes in the event, what it leaves stands for what it might have stood for before, or for what it may stand
-- for after it.
abbrev pub Between : History → Option Entry → History → Option Entry → Image → Type 0
Between before unsure after later_unsure image = MayStandFor before unsure image ⊎ MayStandFor after later_unsure image

-- The entry that isn't sure after an event: the one that an event which answered a fault was to add, where each entry was sure
-- before it.
abbrev pub unsure_after : Event → Reply → Option Entry → Option Entry
unsure_after event (Refused Fault) None = asked_entry event
unsure_after event reply unsure = unsure

-- A step of the machine for which the core stood: the core stands for what it leaves, and so do all images in between.
pub record Stepped {D : Type 0} (g : Ghosts D) (old : Core D) (event : Event) (reply : Reply) (new : Core D) (m : Machine) : Type 0 where
  pub machine : Machine
  pub stands : CoreStandsFor g new machine
  pub step : Step (g.faults old.disk) (g.faults new.disk) m event reply machine
  pub images : IsTrue (g.tells old.disk) → LeavesOnly g.moment g.left_since old.disk new.disk
      (Between m.history (unsure_of old.state) machine.history (unsure_of new.state))
  pub unsure : unsure_of new.state ≡ unsure_after event reply (unsure_of old.state)
  -- once an entry isn't sure none is added
  pub ended : (unsure_of old.state ≡ None) ⊎ (machine.history ≡ m.history)

-- Where the last byte that an event writes is to end, as far as that may be 2^63 or more; `counts` says no more than that there is
-- no far write if it isn't. A push writes a record after the gate. A piece goes where its job says, of which `write_piece` speaks.
-- Lists are short, so for them it is 0.
abbrev pub end_of : CoreState → Event → ℕ
end_of core (Push spans moment) =
    core.segment.gate + 10 + length (body_bytes (core.segment.first + core.segment.count) spans)
end_of core (WritePiece job file bytes) = 2 ^ 63
end_of core event = 0

-- Each event but a page's read leaves the frames of the page cache.
abbrev pub KeepsFrames : Event → (old new : List Frame) → Type 0
KeepsFrames (ReadPage pin block page) old new = Unit {0}
KeepsFrames event old new = new ≡ old

-- One event of a core, with its reply.
pub record Did {D : Type 0} (g : Ghosts D) (old : Core D) (event : Event) (reply : Reply) (new : Core D) : Type 0 where
  pub stepped : (m : Machine) → CoreStandsFor g old m → Stepped g old event reply new m
  -- over whatever bytes it is a step of each machine that the core's memory shows
  pub shown : (m : Machine) → CoreShows g old m → (m' : Machine) × CoreShows g new m' × Step (g.faults old.disk) (g.faults new.disk) m event reply m'
  -- where all images were tidy, all stay so
  pub tidy : IsTrue (g.tells old.disk) → (m : Machine) → CoreStandsFor g old m
      → ((image : Image) → g.may_leave old.disk image → IsTidy image)
      → LeavesOnly g.moment g.left_since old.disk new.disk IsTidy
  -- the files of what is open and stays so
  pub files : IsTrue (g.tells old.disk) → (m : Machine) → CoreShows g old m → (hold : Hold) → OpenIn m hold
      → ends event reply hold ≡ false → (file : ℕ) → is_among file (files_of hold) ≡ true
      → Rewritten event reply file (bytes_of (g.held old.disk) file) (bytes_of (g.held new.disk) file)
  -- the file of a job that begins is empty, and so it is in each image that a crash may leave then
  pub empty : IsTrue (g.tells old.disk) → (file : ℕ) → is_among file (own_files reply) ≡ true
      → IsEmptied (g.held new.disk) (g.may_leave new.disk) file
  -- a page is that of its file, and a look shows the history of each machine that the core stands for after it
  pub page : IsTrue (g.tells old.disk) → IsPageRead event reply (λ file. bytes_of (g.held old.disk) file)
  pub look : IsTrue (g.tells new.disk) → (m : Machine) → CoreStandsFor g new m
      → IsLookTaken reply (λ file. bytes_of (g.held new.disk) file) m.history
  -- its opening ended when it did
  pub since : new.since ≡ old.since
  -- what a page's read makes of the frames `read_page` says
  pub frames : KeepsFrames event old.cache new.cache
  -- a fault is answered just where a call of the disk failed, and then it was the last one
  pub counts : Counts g (end_of old.state event) (reply ≢ Refused Fault) (reply ≡ Refused Fault) old.disk new.disk
  pub calls : MadeCalls event reply (g.calls old.disk) (g.calls new.disk)
  -- a page read alone counts as a read
  pub reads : RoseAtMost (reads_of event) (g.reads old.disk) (g.reads new.disk)

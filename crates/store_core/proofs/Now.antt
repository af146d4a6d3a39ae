-- An event by what a core stands for now, and from that by what a crash may have left since its opening ended.
use Rattle.std.proofs.Common.{◌≡◌, ◌≢◌, ◌⊎◌, inl, inr, ℕ, ◌≤◌, List, None, IsTrue, true, false, refl, sym, ap, subst, arith}
use Rattle.disk_model.specs.Calls.{Counts}
use Rattle.disk_model.specs.Images.{Image, bytes_of}
use Rattle.disk_model.specs.Crash.{LeavesOnly}
use Rattle.disk_model.specs.declared.disk.Device.{Ghosts}
use Rattle.store_model.specs.History.{count_of}
use Rattle.store_model.specs.State.{is_among}
use Rattle.store_model.specs.Event.{Event, Reply}
use Rattle.store_model.specs.Event.Event.{ReadPage}
use Rattle.store_model.specs.Event.Reply.{Refused}
use Rattle.store_model.specs.Event.Refusal.{Fault}
use Rattle.store_model.specs.Holds.{Hold, OpenIn, ends, files_of, own_files}
use Rattle.store_model.specs.Step.{Machine, Step}
use Rattle.store_state.specs.Meaning.{Rewritten, reads_of}
use Rattle.store_state.specs.Calls.{MadeCalls, RoseAtMost}
use Rattle.store_state.specs.Shown.{AreBlocks, IsLookTaken}
use Rattle.store_state.specs.Written.{IsPageRead}
use Rattle.store_images.specs.Stored.{IsTidy}
use Rattle.store_files.specs.Files.{IsEmptied}
use Rattle.store_core.specs.declared.store.Core.{Core}
use Rattle.store_model.proofs.TellsHistory.{step_tells}
use Rattle.store_model.specs.Told.{history_after}
use Rattle.page_cache.specs.Frames.{Frame}
use Rattle.store_core.specs.Cores.{CoreStandsFor, StateShows, StandsFor, unsure_of}
use Rattle.store_core.specs.Frames.{FramesFit, IsKept}
use Rattle.store_core.proofs.Frames.{frames_stay}
use Rattle.store_core.specs.Events.{Between, Did, KeepsFrames, Stepped, end_of, unsure_after}
use Rattle.store_core.specs.declared.since.Since.{Since}
use Rattle.store_core.specs.Stood.{StoodFor}
use Rattle.store_core.proofs.Past.{between, stood, same_start}

-- the core stands for the machine, by what it keeps and what its disk may leave now
abbrev pub StandsNow : {D : Type 0} (g : Ghosts D) → Core D → Machine → Type 0
StandsNow {D} g core m = StandsFor (IsTrue (g.tells core.disk)) (g.held core.disk) (g.may_leave core.disk) core.state m

-- a step, by what the core keeps and what its disk may leave now
pub record SteppedNow {D : Type 0} (g : Ghosts D) (old : Core D) (event : Event) (reply : Reply) (new : Core D) (m : Machine) : Type 0 where
  pub machine : Machine
  pub stands : StandsNow g new machine
  pub step : Step (g.faults old.disk) (g.faults new.disk) m event reply machine
  pub images : IsTrue (g.tells old.disk) → LeavesOnly g.moment g.left_since old.disk new.disk
      (Between m.history (unsure_of old.state) machine.history (unsure_of new.state))
  pub unsure : unsure_of new.state ≡ unsure_after event reply (unsure_of old.state)
  -- once a batch isn't sure nothing is pushed
  pub ended : (unsure_of old.state ≡ None) ⊎ (machine.history ≡ m.history)

-- an event, by the same
pub record DidNow {D : Type 0} (g : Ghosts D) (old : Core D) (event : Event) (reply : Reply) (new : Core D) : Type 0 where
  pub stepped : (m : Machine) → StandsNow g old m → SteppedNow g old event reply new m
  pub shown : (m : Machine) → StateShows g old m → (m' : Machine) × StateShows g new m' × Step (g.faults old.disk) (g.faults new.disk) m event reply m'
  pub tidy : IsTrue (g.tells old.disk) → (m : Machine) → StandsNow g old m
      → ((image : Image) → g.may_leave old.disk image → IsTidy image)
      → LeavesOnly g.moment g.left_since old.disk new.disk IsTidy
  pub files : IsTrue (g.tells old.disk) → (m : Machine) → StateShows g old m → (hold : Hold) → OpenIn m hold
      → ends event reply hold ≡ false → (file : ℕ) → is_among file (files_of hold) ≡ true
      → Rewritten event reply file (bytes_of (g.held old.disk) file) (bytes_of (g.held new.disk) file)
  -- the files of listed and of pinned blocks hold what they held
  pub kept : IsTrue (g.tells old.disk) → (m : Machine) → StateShows g old m → (file : ℕ) → IsKept file m.state
      → bytes_of (g.held new.disk) file ≡ bytes_of (g.held old.disk) file
  -- the listed blocks are blocks, as they were before it
  pub whole : IsTrue (g.tells old.disk) → (m : Machine) → StateShows g old m → AreBlocks (λ file. bytes_of (g.held old.disk) file) old.state.infos.items
      → AreBlocks (λ file. bytes_of (g.held new.disk) file) new.state.infos.items
  pub empty : IsTrue (g.tells old.disk) → (file : ℕ) → is_among file (own_files reply) ≡ true
      → IsEmptied (g.held new.disk) (g.may_leave new.disk) file
  pub page : IsTrue (g.tells old.disk) → IsPageRead event reply (λ file. bytes_of (g.held old.disk) file)
  pub look : IsTrue (g.tells new.disk) → (m : Machine) → StandsNow g new m
      → IsLookTaken reply (λ file. bytes_of (g.held new.disk) file) m.history
  pub counts : Counts g (end_of old.state event) (reply ≢ Refused Fault) (reply ≡ Refused Fault) old.disk new.disk
  pub calls : MadeCalls event reply (g.calls old.disk) (g.calls new.disk)
  pub reads : RoseAtMost (reads_of event) (g.reads old.disk) (g.reads new.disk)

-- The new frames fit the old core's disk in each machine in which the old ones do.
abbrev pub FramesMoved : {D : Type 0} (g : Ghosts D) (old : Core D) → List Frame → Type 0
FramesMoved {D} g old frames = (m : Machine) → StateShows g old m → FramesFit (IsTrue (g.tells old.disk)) (g.held old.disk) m.state old.cache
    → FramesFit (IsTrue (g.tells old.disk)) (g.held old.disk) m.state frames

pub frames_same : (event : Event) (frames : List Frame) → KeepsFrames event frames frames
frames_same (ReadPage pin block page) frames = tt
frames_same _ frames = refl

module _ {D : Type 0} (g : Ghosts D) (old new : Core D) (e : Event) (r : Reply) (since : new.since ≡ old.since) (frames : FramesMoved g old new.cache) (left : KeepsFrames e old.cache new.cache) (did : DidNow g old e r new) where
  stepped_since : (m : Machine) → CoreStandsFor g old m → Stepped g old e r new m
  stepped_since m s =
      let one = did.stepped m s.stands in
      let after : one.machine.history ≡ history_after e r m.history = (step_tells (g.faults old.disk) (g.faults new.disk) m one.machine e r one.step).0 in
      let start : one.machine.history.start ≡ m.history.start = same_start e r m.history one.machine.history after in
      let first : m.history.start ≤ count_of m.history = omega arith in
      let moment : new.since.moment ≡ old.since.moment = ap (λ (t : Since). t.moment) since in
      record {
        machine = one.machine;
        stands = record {
          stands = one.stands;
          past = λ told.
              let told_old = subst IsTrue did.counts.telling told in
              let was = s.past told_old in
              let run = one.images told_old in record {
                opened = omega (arith, moment, was.opened, run.later);
                images = λ image left. subst (λ (n : ℕ). StoodFor n one.machine.history (unsure_of new.state) image) (sym start)
                    (elim (run.before old.since.moment image was.opened (subst (λ (n : ℕ). g.left_since new.disk n image) moment left)) [
                      | inl past ↦ stood e r m.history one.machine.history (unsure_of old.state) (unsure_of new.state) m.history.start after first one.unsure one.ended image (was.images image past)
                      | inr meanwhile ↦ between e r m.history one.machine.history (unsure_of old.state) (unsure_of new.state) m.history.start after first one.unsure one.ended image meanwhile
                    ]);
              };
        };
        step = one.step;
        images = one.images;
        unsure = one.unsure;
        ended = one.ended;
      }

  pub did_since : Did g old e r new
  did_since = record {
    stepped = stepped_since;
    shown = λ m s.
        let one = did.shown m s.state in (
          one.0,
          record {
            state = one.1;
            whole = λ told. let told_old = subst IsTrue did.counts.telling told in did.whole told_old m s.state (s.whole told_old);
            frames = frames_stay (IsTrue (g.tells old.disk)) (IsTrue (g.tells new.disk)) (g.held old.disk) (g.held new.disk) m one.0 (g.faults old.disk) (g.faults new.disk) e r new.cache
                (λ t. subst IsTrue did.counts.telling t) (λ told file kept. did.kept told m s.state file kept) one.2 (frames m s.state s.frames);
          },
          one.2,
        );
    tidy = λ told m s. did.tidy told m s.stands;
    files = λ told m s. did.files told m s.state;
    empty = did.empty;
    page = did.page;
    look = λ told m s. did.look told m s.stands;
    since = since;
    frames = left;
    counts = did.counts;
    calls = did.calls;
    reads = did.reads;
  }

-- As its opening ends nothing was left but what its disk may leave.
pub stands_now : {D : Type 0} (g : Ghosts D) → ((disk : D) (image : Image) → g.left_since disk (g.moment disk) image → g.may_leave disk image) → (core : Core D) (m : Machine)
    → core.since.moment ≡ g.moment core.disk → StandsNow g core m → CoreStandsFor g core m
stands_now g only_now core m ends s = record {
  stands = s;
  past = λ told. record {
    opened = omega (arith, ends);
    images = λ image left. inr (s.now told image (only_now core.disk image (subst (λ (n : ℕ). g.left_since core.disk n image) ends left)));
  };
}

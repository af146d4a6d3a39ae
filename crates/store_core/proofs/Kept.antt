-- Events that write to a disk and leave the history as it is.
use Rattle.std.proofs.Common.{◌≡◌, inl, inr, ℕ, List, [], ◌∷◌, Some, None, Option, IsTrue, true, false, refl, sym, ◌∙◌, subst}
use Rattle.disk_model.specs.Images.{Image, bytes_of}
use Rattle.disk_model.specs.Crash.{Within, Reached, Run}
use Rattle.disk_model.specs.declared.disk.Device.{Ghosts}
use Rattle.disk_model.proofs.Moments.{widened}
use Rattle.store_entries.specs.declared.entry.Entry.{Entry}
use Rattle.store_model.specs.History.{History, grown}
use Rattle.store_model.specs.State.{is_among}
use Rattle.store_model.specs.Event.{Event, Reply}
use Rattle.store_model.specs.Holds.{Hold, OpenIn, ends, files_of, own_files}
use Rattle.store_model.specs.Step.{Machine, Step}
use Rattle.store_model.proofs.KeepsFirsts.{step_keeps as keeps_firsts}
use Rattle.store_model.proofs.KeepsSound.{step_keeps as keeps_sound}
use Rattle.store_model.proofs.KeepsFloor.{step_keeps as keeps_floor}
use Rattle.store_state.specs.Meaning.{Rewritten, reads_of}
use Rattle.store_state.specs.Calls.{MadeCalls, RoseAtMost}
use Rattle.store_state.specs.Shown.{IsLookTaken}
use Rattle.store_state.specs.Written.{IsPageRead}
use Rattle.store_images.specs.Stored.{MayStandFor, IsTidy, KeepsStored}
use Rattle.store_images.specs.Settled.{IsSettled}
use Rattle.store_images.proofs.Keeping.{block_named, given_out}
use Rattle.store_files.specs.Files.{SameBelow, IsEmptied}
use Rattle.store_core.specs.Jobs.{HasFreshSegment}
use Rattle.store_core.specs.Waiting.{rows_outside, AreLogged}
use Rattle.store_core.specs.declared.state.CoreState.{CoreState}
use Rattle.store_core.specs.declared.store.Core.{Core}
use Rattle.store_core.specs.Cores.{HasState, StandsFor, StateShows, unsure_of}
use Rattle.store_files.specs.Described.{AreDescribed}
use Rattle.store_files.specs.LogReading.{tail_of}
use Rattle.store_core.proofs.Counted.{Counted}
use Rattle.page_cache.specs.Frames.{Frame}
use Rattle.store_core.specs.Frames.{IsKept}
use Rattle.store_core.proofs.ListedBlocks.{whole_kept, whole_same}
use Rattle.store_core.proofs.Now.{FramesMoved, StandsNow, did_since}
use Rattle.store_core.specs.Events.{Did, Between, KeepsFrames, unsure_after, end_of}
use Rattle.store_core.proofs.Described.{described_same}

pub may_kept : (h : History) (unsure : Option Entry) (origin image : Image) → KeepsStored origin image → MayStandFor h unsure origin → MayStandFor h unsure image
may_kept h None origin image keeps s = keeps.stands h s
may_kept h (Some entry) origin image keeps (inl s) = inl (keeps.stands h s)
may_kept h (Some entry) origin image keeps (inr s) = inr (keeps.stands (grown h (entry ∷ [])) s)

-- what the core stands for afterwards
pub stands_kept : (told told' : Type 0) (held held' : Image) (may_leave may_leave' : Image → Type 0) (core core' : CoreState) (m m' : Machine) (before faults : ℕ) (e : Event) (r : Reply)
    → (told' → told) → StandsFor told held may_leave core m → Step before faults m e r m' → m'.history ≡ m.history → HasState core' m' → unsure_of core' ≡ unsure_of core
    → (told → Within (Reached KeepsStored may_leave) may_leave') → (told → AreDescribed held' core'.infos.items m'.state.blocks)
    → (told → core'.read_only ≡ None → IsSettled held' may_leave' core'.list m'.state.blocks (tail_of core'.segment) m'.history)
    → (core'.read_only ≡ None → core.read_only ≡ None) → (told → core'.read_only ≡ None → HasFreshSegment held' may_leave' core'.jobs)
    → (told → core'.read_only ≡ None → AreLogged held' core'.list (rows_outside m'.state))
    → StandsFor told' held' may_leave' core' m'
stands_kept told told' held held' may_leave may_leave' core core' m m' before faults e r known s step history has unsure within built settled writes fresh logged = record {
  has = has;
  agrees = keeps_firsts before faults m m' e r s.agrees step;
  sound = keeps_sound before faults m m' e r s.sound step;
  above = keeps_floor before faults m m' e r s.above step;
  built = λ t. built (known t);
  now = λ t image left.
      let from = within (known t) image left in
      subst (λ (h : History). MayStandFor h (unsure_of core') image) (sym history)
      (subst (λ (u : Option Entry). MayStandFor m.history u image) (sym unsure) (may_kept m.history (unsure_of core) from.0 image from.2 (s.now (known t) from.0 from.1)));
  settled = λ t free. settled (known t) free;
  sure = λ free. unsure ∙ s.sure (writes free);
  fresh = λ t free. fresh (known t) free;
  logged = λ t free. logged (known t) free;
}

pub did_kept : {D : Type 0} (g : Ghosts D) (old : Core D) (disk : D) (frames : List Frame) (moved : FramesMoved g old frames) (state : CoreState) (listed : state.infos.items ≡ old.state.infos.items) (event : Event) (left : KeepsFrames event old.cache frames) (reply : Reply)
    → Counted g (end_of old.state event) reply old.disk disk
    → (IsTrue (g.tells old.disk) → (m : Machine) → StandsNow g old m → Run KeepsStored g.moment g.left_since g.may_leave old.disk disk)
    → unsure_of state ≡ unsure_of old.state → unsure_after event reply (unsure_of old.state) ≡ unsure_of old.state
    → ((m : Machine) → StandsNow g old m → (m' : Machine) × StandsNow g (record old { disk = disk; state = state; cache = frames }) m' × (m'.history ≡ m.history) × Step (g.faults old.disk) (g.faults disk) m event reply m')
    → ((m : Machine) → StateShows g old m → (m' : Machine) × StateShows g (record old { disk = disk; state = state; cache = frames }) m' × Step (g.faults old.disk) (g.faults disk) m event reply m')
    → (IsTrue (g.tells old.disk) → (m : Machine) → StateShows g old m → (hold : Hold) → OpenIn m hold → ends event reply hold ≡ false → (file : ℕ) → is_among file (files_of hold) ≡ true
    → Rewritten event reply file (bytes_of (g.held old.disk) file) (bytes_of (g.held disk) file))
    → (IsTrue (g.tells old.disk) → (m : Machine) → StateShows g old m → (file : ℕ) → IsKept file m.state → bytes_of (g.held disk) file ≡ bytes_of (g.held old.disk) file)
    → (IsTrue (g.tells old.disk) → (file : ℕ) → is_among file (own_files reply) ≡ true → IsEmptied (g.held disk) (g.may_leave disk) file)
    → (IsTrue (g.tells old.disk) → IsPageRead event reply (λ file. bytes_of (g.held old.disk) file)) → ((shows : ℕ → List ℕ) (h : History) → IsLookTaken reply shows h)
    → MadeCalls event reply (g.calls old.disk) (g.calls disk)
    → RoseAtMost (reads_of event) (g.reads old.disk) (g.reads disk)
    → Did g old event reply (record old { disk = disk; state = state; cache = frames })
did_kept {D} g old disk frames moved state listed event left reply counts run unsure same stands shows files kept empty page look calls reads = did_since g old _ _ _ refl moved left (record {
  stepped = λ m s.
      let after = stands m s in record {
        machine = after.0;
        stands = after.1;
        step = after.3;
        images = λ told. widened g.moment g.left_since old.disk disk (Reached KeepsStored (g.may_leave old.disk)) (Between m.history (unsure_of old.state) after.0.history (unsure_of state)) (run told m s).since
            (λ image from. inl (may_kept m.history (unsure_of old.state) from.0 image from.2 (s.now told from.0 from.1)));
        unsure = unsure ∙ sym same;
        ended = inr after.2;
      };
  shown = shows;
  tidy = λ told m s tidy. widened g.moment g.left_since old.disk disk (Reached KeepsStored (g.may_leave old.disk)) IsTidy (run told m s).since (λ image from. from.2.tidy (tidy from.0 from.1));
  files = files;
  kept = kept;
  whole = λ told m s are. whole_same (g.held disk) old.state.infos.items state.infos.items listed (whole_kept (g.held old.disk) (g.held disk) old.state m s.has (kept told m s) are);
  empty = empty;
  page = page;
  look = λ told m stands. look (λ file. bytes_of (g.held disk) file) m.history;
  counts = counts;
  calls = calls;
  reads = reads;
})

-- the blocks of a core whose list names none of the files that changed
pub described_below : (held later : Image) (core : CoreState) (m : Machine) → HasState core m → SameBelow core.list.next_file held later → AreDescribed held core.infos.items m.state.blocks → AreDescribed later core.infos.items m.state.blocks
described_below held later core m has same was = described_same held later core.infos.items m.state.blocks has.infos
    (λ b inside. same b.file (given_out core.list b.file has.rules (block_named core.list m.state.blocks b has.blocks inside)).1) was

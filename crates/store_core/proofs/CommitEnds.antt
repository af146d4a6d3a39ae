-- A commit as an event of a core: where the list was written, or may have been.
use Rattle.std.proofs.Common.{◌≡◌, ◌⊎◌, inl, inr, ℕ, ◌≤◌, List, Some, None, Option, IsTrue, Bool, true, false, refl, sym, ◌∙◌, ap, subst, arith, Result, IsOk, IsErr}
use Rattle.std.proofs.lemmas.Bool.{cases_lt}
use Rattle.span_types.specs.declared.errors.Failed.{Failed}
use Rattle.disk_model.specs.Calls.{Counts}
use Rattle.disk_model.specs.Images.{Image, bytes_of}
use Rattle.disk_model.specs.Crash.{LeavesOnly}
use Rattle.disk_model.specs.declared.disk.Device.{Ghosts}
use Rattle.disk_model.proofs.CallRuns.{calls_counts, counts_then, raised_rose}
use Rattle.disk_model.proofs.Moments.{widened}
use Rattle.block_info.specs.InfoParts.{InfoParts}
use Rattle.block_list.specs.declared.body.ListBody.{ListBody}
use Rattle.store_entries.specs.declared.entry.Entry.{Entry}
use Rattle.store_model.specs.State.{State, is_among}
use Rattle.store_model.specs.Event.{Event}
use Rattle.store_model.specs.Event.Reply.{Fine, Refused}
use Rattle.store_model.specs.Event.Refusal.{Fault}
use Rattle.store_model.specs.Holds.{Hold, OpenIn, files_of as hold_files}
use Rattle.store_model.specs.Step.{Machine, Step, early, broken, if_read_only, with_state}
use Rattle.store_model.specs.Step.Step.{Breaks}
use Rattle.store_model.proofs.KeepsFirsts.{step_keeps as keeps_firsts}
use Rattle.store_model.proofs.KeepsSound.{step_keeps as keeps_sound}
use Rattle.store_model.proofs.KeepsFloor.{step_keeps as keeps_floor}
use Rattle.store_state.specs.Calls.{RoseAtMost}
use Rattle.store_state.specs.Shown.{AreBlocks}
use Rattle.store_images.specs.Stored.{ImageStandsFor, MayStandFor, IsTidy}
use Rattle.store_images.specs.Settled.{IsSettled}
use Rattle.store_images.proofs.Keeping.{block_named, given_out}
use Rattle.store_images.proofs.Storing.{settled_now}
use Rattle.store_core.specs.Jobs.{HasFreshSegment}
use Rattle.store_core.specs.Waiting.{rows_outside, AreLogged}
use Rattle.store_core.specs.declared.state.CoreState.{CoreState}
use Rattle.store_core.specs.declared.store.Core.{Core}
use Rattle.store_core.specs.Cores.{HasState, StandsFor, StateShows, unsure_of}
use Rattle.store_files.specs.Described.{AreDescribed}
use Rattle.store_files.specs.LogReading.{tail_of}
use Rattle.store_core.specs.Events.{Did, Between, end_of}
use Rattle.store_core.proofs.Counted.{counted_fine, counted_fault, counts_short, calls_exact, rose_then}
use Rattle.store_core.proofs.ListedBlocks.{whole_kept, whole_same}
use Rattle.store_core.proofs.Now.{did_since, frames_same}
use Rattle.store_core.proofs.CommitEvents.{IsCommit}
use Rattle.store_core.proofs.CommitRuns.{Synced, Ran, MayList, stands_since, stands_now, tidy_since}
use Rattle.store_core.proofs.Described.{described_same}
use Rattle.store_core.proofs.HeldFiles.{held_used}
use Rattle.store_core.proofs.KeptFiles.{kept_high}
use Rattle.store_core.proofs.PushEvents.{OnlyNow}
use Rattle.store_core.proofs.Quiet.{none_begun}

-- whether the disk tells its bytes
abbrev pub IsDecided : Type 0 → Type 0
IsDecided told = told ⊎ (told → ⊥)

pub true_or_not : (b : Bool) → IsDecided (IsTrue b)
true_or_not true = inl refl
true_or_not false = inr (λ is. let bad : false ≡ true = is in absurd cc)

-- What a commit makes of a machine, and that the list of that may be written over a disk that holds this and may leave that.
pub record Lists (told : Type 0) (held : Image) (may_leave : Image → Type 0) (core : CoreState) (list : ListBody) (event : Event) (m : Machine) : Type 0 where
  pub after : State
  pub step : (before faults : ℕ) → Step before faults m event Fine (with_state after m)
  pub images : told → MayList held may_leave core.list list m.history

-- The memory after the commit shows the machine, and the disk is as the machine has it.
pub record Takes (told : Type 0) (held : Image) (may_leave : Image → Type 0) (core : CoreState) (m : Machine) : Type 0 where
  pub has : HasState core m
  pub built : told → AreDescribed held core.infos.items m.state.blocks
  pub settled : told → IsSettled held may_leave core.list m.state.blocks (tail_of core.segment) m.history
  pub fresh : told → HasFreshSegment held may_leave core.jobs
  pub logged : told → AreLogged held core.list (rows_outside m.state)

module _ {D : Type 0} (g : Ghosts D) (only_now : OnlyNow g) (old : Core D) (mid disk : D) (event : Event) (is : IsCommit event) (file slot : ℕ) (list : ListBody) (free : old.state.read_only ≡ None)
    (result : Result (Unit {0}) Failed) (synced : Synced g old.disk mid file) (ran : Ran g mid disk old.state.list list slot result)
    (lists : (told : Type 0) → (told → IsTrue (g.tells old.disk)) → IsDecided told → (m : Machine) → StandsFor told (g.held old.disk) (g.may_leave old.disk) old.state m → Lists told (g.held mid) (g.may_leave mid) old.state list event m) where
  can : (m : Machine) → HasState old.state m → early m event ≡ None
  can m has = is.early_is m ∙ ap (λ (r : Option ℕ). if_read_only r None) (has.read_only ∙ free)

  pub same_file : IsTrue (g.tells old.disk) → (f : ℕ) → 2 ≤ f → bytes_of (g.held disk) f ≡ bytes_of (g.held old.disk) f
  same_file told f least = ran.besides (subst IsTrue (sym synced.telling) told) f (λ is. let below = ran.below in omega (arith, least, is, below)) ∙ synced.same told f

  module _ (told : Type 0) (tells : told → IsTrue (g.tells old.disk)) (decided : IsDecided told) (m : Machine) (s : StandsFor told (g.held old.disk) (g.may_leave old.disk) old.state m) where
    abbrev l : Lists told (g.held mid) (g.may_leave mid) old.state list event m
    l = lists told tells decided m s

    abbrev m' : Machine
    m' = with_state l.after m

    before : told → (image : Image) → g.may_leave old.disk image → ImageStandsFor image m.history
    before known image left = settled_now (g.held old.disk) (g.may_leave old.disk) old.state.list m.state.blocks (tail_of old.state.segment) m.history (s.settled known free) image left

    images : told → LeavesOnly g.moment g.left_since old.disk disk (λ image. ImageStandsFor image m.history)
    images known = stands_since g only_now old.disk mid disk file slot old.state.list list m.history result synced ran (tells known) (before known) (l.images known)

    left_now : told → (image : Image) → g.may_leave disk image → ImageStandsFor image m.history
    left_now known = stands_now g only_now old.disk mid disk file slot old.state.list list m.history result synced ran (tells known) (before known) (l.images known)

    tidy_in : told → ((image : Image) → g.may_leave old.disk image → IsTidy image) → LeavesOnly g.moment g.left_since old.disk disk IsTidy
    tidy_in known = tidy_since g only_now old.disk mid disk file slot old.state.list list m.history result synced ran (tells known) (before known) (l.images known)

    sure : (u : Option Entry) → u ≡ unsure_of old.state → (image : Image) → ImageStandsFor image m.history → MayStandFor m.history u image
    sure u is image stands = subst (λ (v : Option Entry). MayStandFor m.history v image) (sym (is ∙ s.sure free)) stands

    pub built_old : told → AreDescribed (g.held disk) old.state.infos.items m.state.blocks
    built_old known = described_same (g.held old.disk) (g.held disk) old.state.infos.items m.state.blocks s.has.infos
        (λ b inside. same_file (tells known) b.file (given_out old.state.list b.file s.has.rules (block_named old.state.list m.state.blocks b s.has.blocks inside)).0) (s.built known)

    -- the list was written
    stands_after : (later : CoreState) → unsure_of later ≡ unsure_of old.state → Takes told (g.held disk) (g.may_leave disk) later m' → (told' : Type 0) → (told' → told) → StandsFor told' (g.held disk) (g.may_leave disk) later m'
    stands_after later unsure takes told' known = record {
      has = takes.has;
      agrees = keeps_firsts 0 0 m m' event Fine s.agrees (l.step 0 0);
      sound = keeps_sound 0 0 m m' event Fine s.sound (l.step 0 0);
      above = keeps_floor 0 0 m m' event Fine s.above (l.step 0 0);
      built = λ t. takes.built (known t);
      now = λ t image left. sure (unsure_of later) unsure image (left_now (known t) image left);
      settled = λ t writes. takes.settled (known t);
      sure = λ writes. unsure ∙ s.sure free;
      fresh = λ t writes. takes.fresh (known t);
      logged = λ t writes. takes.logged (known t);
    }

    -- a write of the list failed
    stands_broken : (later : CoreState) → HasState later (broken (g.faults disk) m) → later.infos.items ≡ old.state.infos.items → later.read_only ≡ Some (g.faults disk) → unsure_of later ≡ unsure_of old.state
        → (told' : Type 0) → (told' → told) → StandsFor told' (g.held disk) (g.may_leave disk) later (broken (g.faults disk) m)
    stands_broken later has infos read_only unsure told' known = record {
      has = has;
      agrees = s.agrees;
      sound = s.sound;
      above = record { waiting = s.above.waiting; next = s.above.next };
      built = λ t. subst (λ (i : List InfoParts). AreDescribed (g.held disk) i m.state.blocks) (sym infos) (built_old (known t));
      now = λ t image left. sure (unsure_of later) unsure image (left_now (known t) image left);
      settled = λ t none. absurd (stopped none);
      sure = λ none. absurd (stopped none);
      fresh = λ t none. absurd (stopped none);
      logged = λ t none. absurd (stopped none);
    }
      where
        stopped : later.read_only ≡ None → ⊥
        stopped none = let bad : Some (g.faults disk) ≡ None = sym read_only ∙ none in absurd cc

  telling : g.tells disk ≡ g.tells old.disk
  telling = ran.telling ∙ synced.telling

  held_same : IsTrue (g.tells old.disk) → (m : Machine) → StateShows g old m → (hold : Hold) → OpenIn m hold → (f : ℕ) → is_among f (hold_files hold) ≡ true → bytes_of (g.held disk) f ≡ bytes_of (g.held old.disk) f
  held_same told m s hold is_open f among = elim (cases_lt f 2) [
    | inl low ↦ absurd (let used = held_used m hold s.sound is_open f among in let none = s.sound.files.slots f low in omega (arith, used, none))
    | inr least ↦ same_file told f least
  ]

  -- the blocks that were listed are blocks
  pub listed_still : IsTrue (g.tells old.disk) → (m : Machine) → StateShows g old m → AreBlocks (λ f. bytes_of (g.held old.disk) f) old.state.infos.items
      → AreBlocks (λ f. bytes_of (g.held disk) f) old.state.infos.items
  listed_still told m s are = whole_kept (g.held old.disk) (g.held disk) old.state m s.has (λ f is. same_file told f (kept_high m.state s.sound f is)) are

  counts : Counts g 0 (IsOk result) (IsErr result) old.disk disk
  counts = counts_then g 0 (IsOk synced.result) (IsErr synced.result) (IsOk result) (IsErr result) old.disk mid disk (calls_counts g old.disk mid synced.result 1 0 synced.made) synced.fine
      (counts_short g ran.end 0 (IsOk result) (IsErr result) mid disk ran.short (calls_counts g mid disk result 6 ran.end ran.made))

  made : RoseAtMost 7 (g.calls old.disk) (g.calls disk)
  made = let one = synced.made.calls in let more = ran.made.calls in (omega (arith, one.later, more.later), omega (arith, one.at_most, more.at_most))

  unread : RoseAtMost 0 (g.reads old.disk) (g.reads disk)
  unread = let one = synced.made.no_read in let two = ran.made.no_read in (omega (arith, one, two), omega (arith, one, two))

  pub did_committed : IsOk result → (later : CoreState) → unsure_of later ≡ unsure_of old.state
      → ((told : Type 0) → (tells : told → IsTrue (g.tells old.disk)) → (decided : IsDecided told) → (m : Machine) → (s : StandsFor told (g.held old.disk) (g.may_leave old.disk) old.state m) → Takes told (g.held disk) (g.may_leave disk) later (with_state (lists told tells decided m s).after m))
      → (IsTrue (g.tells old.disk) → (m : Machine) → StateShows g old m → AreBlocks (λ f. bytes_of (g.held old.disk) f) old.state.infos.items → AreBlocks (λ f. bytes_of (g.held disk) f) later.infos.items)
      → Did g old event Fine (record old { disk = disk; state = later })
  did_committed fine later unsure takes whole = did_since g old _ _ _ refl (λ m s fits. fits) (frames_same event old.cache) (record {
    stepped = λ m s. record {
      machine = with_state (lists (IsTrue (g.tells old.disk)) (λ t. t) (true_or_not (g.tells old.disk)) m s).after m;
      stands = stands_after (IsTrue (g.tells old.disk)) (λ t. t) (true_or_not (g.tells old.disk)) m s later unsure (takes (IsTrue (g.tells old.disk)) (λ t. t) (true_or_not (g.tells old.disk)) m s) (IsTrue (g.tells disk)) (λ t. subst IsTrue telling t);
      step = (lists (IsTrue (g.tells old.disk)) (λ t. t) (true_or_not (g.tells old.disk)) m s).step (g.faults old.disk) (g.faults disk);
      images = λ told. widened g.moment g.left_since old.disk disk (λ image. ImageStandsFor image m.history) (Between m.history (unsure_of old.state) m.history (unsure_of later)) (images (IsTrue (g.tells old.disk)) (λ t. t) (true_or_not (g.tells old.disk)) m s told)
          (λ image stands. inl (sure (IsTrue (g.tells old.disk)) (λ t. t) (true_or_not (g.tells old.disk)) m s (unsure_of old.state) refl image stands));
      unsure = unsure ∙ sym (is.unsure_is Fine (unsure_of old.state));
      ended = inr refl;
    };
    shown = λ m s. (
      with_state (lists ⊥ (λ bad. absurd bad) (inr (λ bad. bad)) m s).after m,
      stands_after ⊥ (λ bad. absurd bad) (inr (λ bad. bad)) m s later unsure (takes ⊥ (λ bad. absurd bad) (inr (λ bad. bad)) m s) ⊥ (λ bad. bad),
      (lists ⊥ (λ bad. absurd bad) (inr (λ bad. bad)) m s).step (g.faults old.disk) (g.faults disk),
    );
    tidy = λ told m s tidy. tidy_in (IsTrue (g.tells old.disk)) (λ t. t) (true_or_not (g.tells old.disk)) m s told tidy;
    files = λ told m s hold is_open goes_on f among. is.files_are Fine f _ _ (held_same told m s hold is_open f among);
    kept = λ told m s f is. same_file told f (kept_high m.state s.sound f is);
    whole = whole;
    empty = λ told f among. none_begun Fine f _ refl among;
    page = λ told. is.no_page Fine (λ f. bytes_of (g.held old.disk) f);
    look = λ told m s. tt;
    counts = counted_fine g old.disk disk 0 (end_of old.state event) (λ low. omega arith) (IsOk result) (IsErr result) counts fine Fine (λ fault. let bad : Fine ≡ Refused Fault = fault in absurd cc);
    calls = is.calls_done _ _ (rose_then 1 6 (g.calls old.disk) (g.calls mid) (g.calls disk) (calls_exact g old.disk mid 1 0 0 (λ low. low) synced.result synced.made synced.fine) (calls_exact g mid disk 6 ran.end 0 (λ low. ran.short) result ran.made fine));
    reads = is.reads_none _ _ unread;
  })

  pub did_commit_fail : (later : CoreState) → ((m : Machine) → HasState old.state m → HasState later (broken (g.faults disk) m)) → later.infos.items ≡ old.state.infos.items → later.read_only ≡ Some (g.faults disk)
      → unsure_of later ≡ unsure_of old.state → IsErr result → Did g old event (Refused Fault) (record old { disk = disk; state = later })
  did_commit_fail later has infos read_only unsure err = let rose = raised_rose (g.faults old.disk) (g.faults disk) (counts.fault err) in did_since g old _ _ _ refl (λ m s fits. fits) (frames_same event old.cache) (record {
    stepped = λ m s. record {
      machine = broken (g.faults disk) m;
      stands = stands_broken (IsTrue (g.tells old.disk)) (λ t. t) (true_or_not (g.tells old.disk)) m s later (has m s.has) infos read_only unsure (IsTrue (g.tells disk)) (λ t. subst IsTrue telling t);
      step = Breaks (can m s.has) (is.writes_is m.state) refl rose refl;
      images = λ told. widened g.moment g.left_since old.disk disk (λ image. ImageStandsFor image m.history) (Between m.history (unsure_of old.state) m.history (unsure_of later)) (images (IsTrue (g.tells old.disk)) (λ t. t) (true_or_not (g.tells old.disk)) m s told)
          (λ image stands. inl (sure (IsTrue (g.tells old.disk)) (λ t. t) (true_or_not (g.tells old.disk)) m s (unsure_of old.state) refl image stands));
      unsure = unsure ∙ sym (is.unsure_is (Refused Fault) (unsure_of old.state));
      ended = inr refl;
    };
    shown = λ m s. (
      broken (g.faults disk) m,
      stands_broken ⊥ (λ bad. absurd bad) (inr (λ bad. bad)) m s later (has m s.has) infos read_only unsure ⊥ (λ bad. bad),
      Breaks (can m s.has) (is.writes_is m.state) refl rose refl,
    );
    tidy = λ told m s tidy. tidy_in (IsTrue (g.tells old.disk)) (λ t. t) (true_or_not (g.tells old.disk)) m s told tidy;
    files = λ told m s hold is_open goes_on f among. is.files_are (Refused Fault) f _ _ (held_same told m s hold is_open f among);
    kept = λ told m s f is. same_file told f (kept_high m.state s.sound f is);
    whole = λ told m s are. whole_same (g.held disk) old.state.infos.items later.infos.items infos (listed_still told m s are);
    empty = λ told f among. none_begun (Refused Fault) f _ refl among;
    page = λ told. is.no_page (Refused Fault) (λ f. bytes_of (g.held old.disk) f);
    look = λ told m s. tt;
    counts = counted_fault g old.disk disk 0 (end_of old.state event) (λ low. omega arith) (IsOk result) (IsErr result) counts err;
    calls = is.calls_failed _ _ made;
    reads = is.reads_none _ _ unread;
  })

-- A compaction that begins, as an event of a core.
use Rattle.std.proofs.Common.{◌≡◌, ◌≢◌, inl, inr, ℕ, ◌+◌, ◌-◌, ◌^◌, ◌<◌, ◌≤◌, ◌==◌, min, List, [], length, map, Some, None, Option, IsTrue, Bool, true, false, not, refl, sym, ◌∙◌, ap, subst, arith, if◌then◌else◌, Result, IsOk, IsErr}
use Rattle.std.specs.Prelude.{nat_le, Vec, ◌||◌, ◌&&◌}
use Rattle.std.proofs.lemmas.Bool.{le-leb, lt-leb, cases_lt}
use Rattle.std.specs.Vec.{vec_len, vec_capacity}
use Rattle.std.specs.declared.alloc.Global.{Global}
use Rattle.span_types.specs.declared.errors.Failed.{Failed}
use Rattle.disk_model.specs.Calls.{Calls}
use Rattle.disk_model.specs.Images.{bytes_of}
use Rattle.disk_model.specs.Crash.{Run}
use Rattle.disk_model.specs.declared.disk.Device.{Ghosts}
use Rattle.disk_model.proofs.Runs.{run_more}
use Rattle.block_info.specs.InfoParts.{InfoParts}
use Rattle.block_list.specs.declared.body.ListBody.{ListBody}
use Rattle.store_model.specs.State.{Compaction, Pinned, block_files, is_among, pinned_blocks}
use Rattle.store_model.specs.Choice.{choice, level_of}
use Rattle.store_model.specs.After.{after_begin_compact, chosen_job}
use Rattle.store_model.specs.Event.{Reply, Refusal}
use Rattle.store_model.specs.Event.Event.{BeginCompact}
use Rattle.store_model.specs.Event.Reply.{Nothing, Compacting, Refused}
use Rattle.store_model.specs.Event.Refusal.{FilesSpent, Fault, Memory}
use Rattle.store_model.specs.Holds.{Hold, OpenIn, files_of}
use Rattle.store_model.specs.Step.{Machine, Step, early, broken, with_state, if_read_only, if_compacting, if_idle, if_test}
use Rattle.store_model.specs.Step.Step.{Sure, Succeeds, Lacks, Breaks}
use Rattle.store_model.proofs.Numbers.{same_number}
use Rattle.store_state.specs.Calls.{MadeCalls}
use Rattle.store_state.specs.Given.{info_files}
use Rattle.store_images.specs.Stored.{KeepsStored}
use Rattle.store_images.proofs.Keeping.{keeps_same}
use Rattle.store_files.specs.Files.{SameBelow, IsEmptied}
use Rattle.store_files.specs.Pins.{is_taken, is_there, files_at, files_in, pin_at}
use Rattle.store_core.specs.Jobs.{ShowsCompaction, CommitFits, HasFreshSegment, SameFlush, open_jobs}
use Rattle.store_core.specs.Beginning.{KeepsRooms}
use Rattle.store_core.specs.declared.jobs.Jobs.{Jobs}
use Rattle.store_core.specs.declared.jobs.OpenFlush.{OpenFlush}
use Rattle.store_core.specs.declared.jobs.OpenCompaction.{OpenCompaction}
use Rattle.store_core.specs.declared.room.CommitRoom.{CommitRoom}
use Rattle.store_core.specs.declared.state.CoreState.{CoreState}
use Rattle.store_core.specs.declared.store.Core.{Core}
use Rattle.store_core.specs.Cores.{HasState, StandsFor, StateShows}
use Rattle.store_files.specs.BlockReading.{listed_as}
use Rattle.store_files.specs.LogReading.{tail_of}
use Rattle.store_core.proofs.Now.{StandsNow}
use Rattle.store_core.specs.Events.{Did}
use Rattle.store_files.proofs.Apart.{keeps_below, settled_below}
use Rattle.store_core.proofs.BeginEvents.{built_same, not_zero}
use Rattle.store_core.proofs.JobRooms.{RoomOfFlush, RoomOfCompaction, SpareCompaction, LowLevel, rooms_fewer, two_at_most, flush_shown, compaction_shown, spare_flush, fresh_same}
use Rattle.store_core.proofs.Counted.{calls_fine, calls_fault, calls_rose, calls_exact, calls_most, calls_unread}
use Rattle.store_core.proofs.Kept.{stands_kept, did_kept, described_below}
use Rattle.store_core.proofs.InUse.{used_begun_compact}
use Rattle.store_core.proofs.Logged.{logged_kept}
use Rattle.store_core.specs.Frames.{IsKept}
use Rattle.store_core.proofs.KeptFiles.{kept_low}
use Rattle.store_core.proofs.OpenJobs.{fresh_moved, segment_of_known, held_low}
use Rattle.store_files.proofs.PinNumbers.{among-more, files-more}
use Rattle.store_core.proofs.PushEvents.{OnlyNow, refused_is}
use Rattle.store_core.proofs.Quiet.{quiet, none_begun, one_begun, adds_none}
use Rattle.store_core.proofs.States.{has_stopped}

-- ---- what is tested first

no_compaction : (core : CoreState) (m : Machine) → HasState core m → core.jobs.compaction ≡ None → m.state.compaction ≡ None
no_compaction core m has none = subst (λ (k : Option OpenCompaction). ShowsCompaction k m.state.compaction) none has.compaction

abbrev early_of : Option ℕ → Option Compaction → ℕ → ℕ → Option Reply
early_of read_only compaction work next = if_read_only read_only (if_compacting compaction (if_idle work next))

early_by : (core : CoreState) (m : Machine) → HasState core m → early m BeginCompact ≡ early_of core.read_only m.state.compaction (length (choice m.state.blocks)) core.jobs.next_file
early_by core m has =
    ap (λ (r : Option ℕ). early_of r m.state.compaction (length (choice m.state.blocks)) m.state.next_file) has.read_only
    ∙ ap (λ (n : ℕ). early_of core.read_only m.state.compaction (length (choice m.state.blocks)) n) has.next_file

early_writing : (core : CoreState) (m : Machine) (compaction : Option Compaction) → HasState core m → core.read_only ≡ None → m.state.compaction ≡ compaction
    → early m BeginCompact ≡ early_of None compaction (length (choice m.state.blocks)) core.jobs.next_file
early_writing core m compaction has writes is =
    early_by core m has
    ∙ ap (λ (r : Option ℕ). early_of r m.state.compaction (length (choice m.state.blocks)) core.jobs.next_file) writes
    ∙ ap (λ (f : Option Compaction). early_of None f (length (choice m.state.blocks)) core.jobs.next_file) is

idle_of : (work next : ℕ) (test : Bool) → (work == 0) ≡ false → nat_le 4294967294 next ≡ test → if_idle work next ≡ if_test test (Refused (FilesSpent next)) None
idle_of work next test some is = ap (λ (t : Bool). if_test t Nothing (if_test (nat_le 4294967294 next) (Refused (FilesSpent next)) None)) some ∙ ap (λ (t : Bool). if_test t (Refused (FilesSpent next)) None) is

pub compact_spent : (core : CoreState) (m : Machine) → HasState core m → core.read_only ≡ None → core.jobs.compaction ≡ None → 1 ≤ length (choice m.state.blocks) → 4294967294 ≤ core.jobs.next_file
    → early m BeginCompact ≡ Some (Refused (FilesSpent core.jobs.next_file))
compact_spent core m has writes none some high =
    early_writing core m None has writes (no_compaction core m has none)
    ∙ idle_of (length (choice m.state.blocks)) core.jobs.next_file true (not_zero (length (choice m.state.blocks)) some) (le-leb 4294967294 core.jobs.next_file high)

pub compact_free : (core : CoreState) (m : Machine) → HasState core m → core.read_only ≡ None → core.jobs.compaction ≡ None → 1 ≤ length (choice m.state.blocks) → core.jobs.next_file < 4294967294 → early m BeginCompact ≡ None
compact_free core m has writes none some low =
    early_writing core m None has writes (no_compaction core m has none)
    ∙ idle_of (length (choice m.state.blocks)) core.jobs.next_file false (not_zero (length (choice m.state.blocks)) some) (lt-leb 4294967294 core.jobs.next_file low)

-- ---- nothing was done

refused_calls : (why : Refusal) → why ≢ Fault → (n : ℕ) → MadeCalls BeginCompact (Refused why) n n
refused_calls Fault no_fault n = absurd (no_fault refl)
refused_calls _ no_fault n = refl

pub did_not_compact : {D : Type 0} (g : Ghosts D) (only_now : OnlyNow g) (old : Core D) (why : Refusal) → ((m : Machine) → HasState old.state m → early m BeginCompact ≡ Some (Refused why)) → why ≢ Fault
    → Did g old BeginCompact (Refused why) (record old { state = old.state })
did_not_compact g only_now old why is no_fault =
    quiet g only_now old old.state refl BeginCompact (Refused why) (λ file bytes. refl) (λ e. no_fault (refused_is why Fault e)) (refused_calls why no_fault) refl refl (λ shows. tt) (λ told m s. tt)
    (λ told m s. (m, s, refl, Sure (is m s.has) refl))

pub did_choose_none : {D : Type 0} (g : Ghosts D) (only_now : OnlyNow g) (old : Core D) → ((m : Machine) → HasState old.state m → early m BeginCompact ≡ Some Nothing)
    → Did g old BeginCompact Nothing (record old { state = old.state })
did_choose_none g only_now old is =
    quiet g only_now old old.state refl BeginCompact Nothing (λ file bytes. refl) (λ e. let bad : Nothing ≡ Refused Fault = e in cc) (λ n. refl) refl refl (λ shows. tt) (λ told m s. tt)
    (λ told m s. (m, s, refl, Sure (is m s.has) refl))

-- ---- memory was taken

-- the pins are the same
pub record SamePins (old new : List (Option (List ℕ))) : Type 0 where
  pub taken : (other : ℕ) → is_taken other new ≡ is_taken other old
  pub files : (other : ℕ) → files_at other new ≡ files_at other old

pub has_room : (core : CoreState) (infos : Vec InfoParts Global) (jobs : Jobs) (pins : Vec (Option (List ℕ)) Global) (m : Machine) → KeepsRooms core.list core.infos infos core.jobs jobs → SamePins core.pins.items pins.items
    → HasState core m → HasState (record core { infos = infos; jobs = jobs; pins = pins }) m
has_room core infos jobs pins m kept same has = record {
  count = has.count;
  few = has.few;
  live = has.live;
  head = has.head;
  flushing = has.flushing;
  flush = flush_shown core.jobs.flush jobs.flush m.state.flush kept.same.flush has.flush;
  compaction = compaction_shown core.jobs.compaction jobs.compaction m.state.compaction kept.same.compaction has.compaction;
  blocks = has.blocks;
  infos = ap info_files kept.infos ∙ has.infos;
  listed = ap (map listed_as) kept.infos ∙ has.listed;
  commit = λ free. kept.rooms (has.commit free);
  rules = has.rules;
  segments = has.segments;
  last = has.last;
  floor = has.floor;
  loose = has.loose ∙ sym kept.same.loose;
  next_file = has.next_file ∙ sym kept.same.next_file;
  begun = has.begun ∙ sym kept.same.begun;
  jobs = kept.fit has.jobs;
  used = has.used;
  pins = λ n. has.pins n ∙ sym (same.taken n);
  pinned = λ n. has.pinned n ∙ sym (same.files n);
  read_only = has.read_only;
}

pub did_lack_compact : {D : Type 0} (g : Ghosts D) (only_now : OnlyNow g) (old : Core D) (infos : Vec InfoParts Global) (jobs : Jobs) (pins : Vec (Option (List ℕ)) Global)
    → ((m : Machine) → HasState old.state m → early m BeginCompact ≡ None) → KeepsRooms old.state.list old.state.infos infos old.state.jobs jobs → SamePins old.state.pins.items pins.items
    → Did g old BeginCompact (Refused Memory) (record old { state = record old.state { infos = infos; jobs = jobs; pins = pins } })
did_lack_compact {D} g only_now old infos jobs pins free kept same =
    quiet g only_now old (record old.state { infos = infos; jobs = jobs; pins = pins }) kept.infos BeginCompact (Refused Memory) (λ file bytes. refl) (λ e. let bad = refused_is Memory Fault e in cc) (λ n. refl) refl refl (λ shows. tt) (λ told m s. tt)
    (λ told m s.
    let step : Step (g.faults old.disk) (g.faults old.disk) m BeginCompact (Refused Memory) m = Lacks (free m s.has) refl refl refl in (
      m,
      stands_kept told told (g.held old.disk) (g.held old.disk) (g.may_leave old.disk) (g.may_leave old.disk) old.state (record old.state { infos = infos; jobs = jobs; pins = pins }) m m (g.faults old.disk) (g.faults old.disk) BeginCompact (Refused Memory)
          (λ t. t) s step refl (has_room old.state infos jobs pins m kept same s.has) refl (λ t image left. (image, left, keeps_same image)) (λ t. built_same (g.held old.disk) old.state infos m kept.infos (s.built t)) s.settled (λ free. free)
          (λ t writes. fresh_same (g.held old.disk) (g.may_leave old.disk) old.state.jobs.flush jobs.flush kept.same.flush (s.fresh t writes)) s.logged,
      refl,
      step,
    ))

-- ---- the file was emptied, or a call failed

-- the memory of a core in which a compaction has begun
pub record Begun (old new : Jobs) (level pin : ℕ) (list : ListBody) (room : CommitRoom) : Type 0 where
  pub next_file : new.next_file ≡ old.next_file + 1
  pub number : new.begun ≡ min (old.begun + 1) (2 ^ 64 - 1)
  pub loose : new.loose.items ≡ old.loose.items
  pub compaction : new.compaction ≡ Some (record { number = new.begun; file = old.next_file; level = level; pin = pin; room = Some room })
  pub flush : SameFlush old.flush new.flush
  pub loose_room : vec_len new.loose + length list.segments + length list.blocks + 4 ≤ vec_capacity new.loose
  pub mine : CommitFits room list (vec_len new.loose) 2
  pub other : RoomOfFlush list (vec_len new.loose) 2 new.flush

-- the pin that it took
pub record Pins (number : ℕ) (named : List ℕ) (old new : List (Option (List ℕ))) : Type 0 where
  pub free : is_taken number old ≡ false
  pub least : (other : ℕ) → is_taken other old ≡ false → number ≤ other
  pub taken : (other : ℕ) → is_taken other new ≡ (is_taken other old || (number == other))
  pub files : (other : ℕ) → files_at other new ≡ (if number == other then named else files_at other old)

-- the choice of a machine, as its level and its files
abbrev pub IsChoice : ℕ → List ℕ → Machine → Type 0
IsChoice level files m = (level ≡ level_of (choice m.state.blocks) + 1) × (files ≡ block_files (choice m.state.blocks)) × (level ≤ 63)

abbrev some_job : ℕ → ℕ → ℕ → ℕ → Option Compaction
some_job number file level pin = Some (record { number = number; file = file; level = level; pin = pin })

abbrev its_blocks : ℕ → Machine → Pinned
its_blocks pin m = record { number = pin; blocks = choice m.state.blocks }

has_begun : (core : CoreState) (infos : Vec InfoParts Global) (jobs : Jobs) (pins : Vec (Option (List ℕ)) Global) (m : Machine) (level pin : ℕ) (files : List ℕ) (room : CommitRoom)
    → core.jobs.compaction ≡ None → core.jobs.next_file < 4294967294 → m.state.begun + 3 ≤ m.state.next_file
    → infos.items ≡ core.infos.items → vec_len infos + 2 ≤ vec_capacity infos → Begun core.jobs jobs level pin core.list room → Pins pin files core.pins.items pins.items → IsChoice level files m → HasState core m
    → HasState (record core { infos = infos; jobs = jobs; pins = pins }) (with_state (after_begin_compact pin m.state) m)
has_begun core infos jobs pins m level pin files room none below fits known spare begun its_pin choice_is has =
    let number : m.state.begun + 1 ≡ jobs.begun = (let was = has.begun in let next = has.next_file in let now = begun.number in omega (arith, was, next, now, fits, below)) in
    record {
      count = has.count;
      few = has.few;
      live = has.live;
      head = has.head;
      flushing = has.flushing;
      flush = flush_shown core.jobs.flush jobs.flush m.state.flush begun.flush has.flush;
      compaction = subst (λ (k : Option OpenCompaction). ShowsCompaction k (Some (chosen_job pin m.state))) (sym begun.compaction)
          (ap (λ (n : ℕ). some_job n m.state.next_file (level_of (choice m.state.blocks) + 1) pin) number
          ∙ ap (λ (f : ℕ). some_job jobs.begun f (level_of (choice m.state.blocks) + 1) pin) has.next_file
          ∙ ap (λ (l : ℕ). some_job jobs.begun core.jobs.next_file l pin) (sym choice_is.0));
      blocks = has.blocks;
      infos = ap info_files known ∙ has.infos;
      listed = ap (map listed_as) known ∙ has.listed;
      commit = λ free. record {
        rooms = rooms_fewer jobs core.list 2 (open_jobs jobs) (two_at_most jobs) (record {
          flush = begun.other;
          compaction = subst (λ (k : Option OpenCompaction). RoomOfCompaction core.list (vec_len jobs.loose) 2 k) (sym begun.compaction) (room, refl, begun.mine);
        });
        infos = λ some. let few = two_at_most jobs in omega (arith, few, spare);
      };
      rules = has.rules;
      segments = has.segments;
      last = has.last;
      floor = has.floor;
      loose = has.loose ∙ sym begun.loose;
      next_file = ap (λ (n : ℕ). n + 1) has.next_file ∙ sym begun.next_file;
      begun = number;
      jobs = record {
        given = (let was = has.jobs.given in let next = begun.next_file in omega (arith, was, next));
        flush = spare_flush core.list core.jobs.flush jobs.flush begun.flush has.jobs.flush;
        compaction = subst (λ (k : Option OpenCompaction). SpareCompaction core.list k) (sym begun.compaction) (inl has.jobs.given);
        level = subst LowLevel (sym begun.compaction) choice_is.2;
        room = λ some. let few = two_at_most jobs in let room = begun.loose_room in omega (arith, few, room);
      };
      used = used_begun_compact core.list m.state pin (no_compaction core m has none) has.used;
      pins = λ n. among-more n m.state.pins (its_blocks pin m) ∙ ap (λ (b : Bool). b || (pin == n)) (has.pins n) ∙ sym (its_pin.taken n);
      pinned = λ n. files-more n m.state.pins (its_blocks pin m) (has.pins pin ∙ its_pin.free)
          ∙ ap (λ (fs : List ℕ). if pin == n then fs else block_files (pinned_blocks n m.state.pins)) (sym choice_is.1)
          ∙ ap (λ (fs : List ℕ). if pin == n then files else fs) (has.pinned n) ∙ sym (its_pin.files n);
      read_only = has.read_only;
    }

module _ {D : Type 0} (g : Ghosts D) (old : Core D) (disk : D) (writes : old.state.read_only ≡ None) (none : old.state.jobs.compaction ≡ None) (below : old.state.jobs.next_file < 4294967294)
    (free : (m : Machine) → HasState old.state m → early m BeginCompact ≡ None)
    (result : Result (Unit {0}) Failed) (made : Calls g 2 0 old.disk disk result)
    (run : Run (SameBelow old.state.jobs.next_file) g.moment g.left_since g.may_leave old.disk disk)
    (others : IsTrue (g.tells old.disk) → (other : ℕ) → other ≢ old.state.jobs.next_file → bytes_of (g.held disk) other ≡ bytes_of (g.held old.disk) other) where
  telling : g.tells disk ≡ g.tells old.disk
  telling = made.telling

  abbrev file : ℕ
  file = old.state.jobs.next_file

  abbrev limit : ℕ
  limit = old.state.list.next_file

  run_below : (m : Machine) → HasState old.state m → Run (SameBelow limit) g.moment g.left_since g.may_leave old.disk disk
  run_below m has = run_more g.moment g.left_since g.may_leave (SameBelow file) (SameBelow limit) old.disk disk run
      (λ origin image possible same. λ other under. same other (let given = has.jobs.given in omega (arith, given, under)))

  run_keeps : IsTrue (g.tells old.disk) → (m : Machine) → StandsNow g old m → Run KeepsStored g.moment g.left_since g.may_leave old.disk disk
  run_keeps told m s =
      run_more g.moment g.left_since g.may_leave (SameBelow limit) KeepsStored old.disk disk (run_below m s.has)
      (λ origin image possible same. keeps_below (g.held old.disk) (g.may_leave old.disk) old.state.list (s.settled told writes).lies.ready origin image possible same)

  same_held : IsTrue (g.tells old.disk) → (m : Machine) → HasState old.state m → SameBelow limit (g.held old.disk) (g.held disk)
  same_held told m has = λ f under. let given = has.jobs.given in others told f (λ is. omega (arith, is, given, under))

  stay : IsTrue (g.tells old.disk) → (m : Machine) → StateShows g old m → (hold : Hold) → OpenIn m hold → (f : ℕ) → is_among f (files_of hold) ≡ true → bytes_of (g.held disk) f ≡ bytes_of (g.held old.disk) f
  stay told m s hold is_open f among =
      let under = held_low m hold s.sound is_open f among in
      let next = s.has.next_file in
      others told f (λ is. omega (arith, is, under, next))

  kept_stay : IsTrue (g.tells old.disk) → (m : Machine) → StateShows g old m → (f : ℕ) → IsKept f m.state → bytes_of (g.held disk) f ≡ bytes_of (g.held old.disk) f
  kept_stay told m s f is =
      let under = kept_low m.state s.sound f is in
      let next = s.has.next_file in
      others told f (λ is. omega (arith, is, under, next))

  -- the segment of an open flush was given out
  segment_low : (told : Type 0) (m : Machine) → StandsFor told (g.held old.disk) (g.may_leave old.disk) old.state m → (mine : OpenFlush) → old.state.jobs.flush ≡ Some mine → mine.files.segment < file
  segment_low told m s mine known = elim (cases_lt mine.files.segment file) [
    | inl under ↦ under
    | inr above ↦ absurd (
        let one = segment_of_known old.state m mine s.has known in
        let next = s.has.next_file in
        let none = s.sound.files.new mine.files.segment (omega (arith, above, next)) in
        omega (arith, one, none))
  ]

  fresh_later : IsTrue (g.tells old.disk) → (m : Machine) → StandsNow g old m → (jobs : Jobs) → SameFlush old.state.jobs.flush jobs.flush → HasFreshSegment (g.held disk) (g.may_leave disk) jobs
  fresh_later told m s jobs same =
      fresh_same (g.held disk) (g.may_leave disk) old.state.jobs.flush jobs.flush same
      (fresh_moved old.state.jobs.flush (g.held old.disk) (g.held disk) (g.may_leave old.disk) (g.may_leave disk)
      (λ mine known. others told mine.files.segment (let low = segment_low (IsTrue (g.tells old.disk)) m s mine known in λ is. omega (arith, is, low)))
      (λ mine known bytes only. λ image left. let from = run.now image left in from.2 mine.files.segment (segment_low (IsTrue (g.tells old.disk)) m s mine known) ∙ only from.0 from.1)
      (s.fresh told writes))

  module _ (infos : Vec InfoParts Global) (jobs : Jobs) (pins : Vec (Option (List ℕ)) Global) (level pin : ℕ) (files : List ℕ) (room : CommitRoom) (known : infos.items ≡ old.state.infos.items) (spare : vec_len infos + 2 ≤ vec_capacity infos)
      (begun : Begun old.state.jobs jobs level pin old.state.list room) (its_pin : Pins pin files old.state.pins.items pins.items) (choice_is : (m : Machine) → HasState old.state m → IsChoice level files m) where
    after : (told told' : Type 0) → (told' → told) → (told → IsTrue (g.tells old.disk)) → (m : Machine) → StandsFor told (g.held old.disk) (g.may_leave old.disk) old.state m
        → Step (g.faults old.disk) (g.faults disk) m BeginCompact (Compacting (record { number = jobs.begun; file = file; level = level; pin = pin; files = files })) (with_state (after_begin_compact pin m.state) m) → (told → StandsNow g old m)
        → StandsFor told' (g.held disk) (g.may_leave disk) (record old.state { infos = infos; jobs = jobs; pins = pins }) (with_state (after_begin_compact pin m.state) m)
    after told told' later_told tells m s step whole =
        stands_kept told told' (g.held old.disk) (g.held disk) (g.may_leave old.disk) (g.may_leave disk) old.state (record old.state { infos = infos; jobs = jobs; pins = pins }) m (with_state (after_begin_compact pin m.state) m)
        (g.faults old.disk) (g.faults disk) BeginCompact (Compacting (record { number = jobs.begun; file = file; level = level; pin = pin; files = files })) later_told s step refl
        (has_begun old.state infos jobs pins m level pin files room none below s.sound.fits.jobs known spare begun its_pin (choice_is m s.has) s.has) refl
        (λ t. (run_keeps (tells t) m (whole t)).now)
        (λ t. built_same (g.held disk) old.state infos m known (described_below (g.held old.disk) (g.held disk) old.state m s.has (same_held (tells t) m s.has) (s.built t)))
        (λ t free. settled_below (g.held old.disk) (g.may_leave old.disk) old.state.list (s.settled t writes).lies.ready (g.held disk) (g.may_leave disk) (same_held (tells t) m s.has) (run_below m s.has).now
        m.state.blocks (tail_of old.state.segment) m.history (s.settled t writes))
        (λ free. free) (λ t free. fresh_later (tells t) m (whole t) jobs begun.flush)
        (λ t free. logged_kept (g.held old.disk) (g.held disk) old.state.list (g.faults old.disk) (g.faults disk) m (with_state (after_begin_compact pin m.state) m) BeginCompact (Compacting (record { number = jobs.begun; file = file; level = level; pin = pin; files = files }))
        s.has.rules (same_held (tells t) m s.has) step refl (s.logged t writes))

    its_step : (m : Machine) → HasState old.state m → m.state.begun + 3 ≤ m.state.next_file → Step (g.faults old.disk) (g.faults disk) m BeginCompact (Compacting (record { number = jobs.begun; file = file; level = level; pin = pin; files = files })) (with_state (after_begin_compact pin m.state) m)
    its_step m has fits =
        let number : jobs.begun ≡ m.state.begun + 1 = (let was = has.begun in let next = has.next_file in let now = begun.number in omega (arith, was, next, now, fits, below)) in
        let its = choice_is m has in
        Succeeds (free m has) (
          pin,
          record { is_free = has.pins pin ∙ its_pin.free; least = λ other no_pin. its_pin.least other (sym (has.pins other) ∙ no_pin) },
          ap (λ (n : ℕ). Compacting (record { number = n; file = file; level = level; pin = pin; files = files })) number ∙ ap (λ (f : ℕ). Compacting (record { number = m.state.begun + 1; file = f; level = level; pin = pin; files = files })) (sym has.next_file)
              ∙ ap (λ (l : ℕ). Compacting (record { number = m.state.begun + 1; file = m.state.next_file; level = l; pin = pin; files = files })) its.0
              ∙ ap (λ (fs : List ℕ). Compacting (record { number = m.state.begun + 1; file = m.state.next_file; level = level_of (choice m.state.blocks) + 1; pin = pin; files = fs })) its.1,
          refl,
        )

    pub did_compact : IsOk result → (IsTrue (g.tells old.disk) → IsEmptied (g.held disk) (g.may_leave disk) file)
        → Did g old BeginCompact (Compacting (record { number = jobs.begun; file = file; level = level; pin = pin; files = files })) (record old { disk = disk; state = record old.state { infos = infos; jobs = jobs; pins = pins } })
    did_compact fine empty =
        did_kept g old disk old.cache (λ m s fits. fits) (record old.state { infos = infos; jobs = jobs; pins = pins }) known BeginCompact refl (Compacting (record { number = jobs.begun; file = file; level = level; pin = pin; files = files }))
        (calls_fine g old.disk disk 2 0 0 (λ low. low) result made fine (Compacting (record { number = jobs.begun; file = file; level = level; pin = pin; files = files })) (λ is. let bad : Compacting (record { number = jobs.begun; file = file; level = level; pin = pin; files = files }) ≡ Refused Fault = is in absurd cc))
        run_keeps refl refl
        (λ m s.
        let step = its_step m s.has s.sound.fits.jobs in (
          with_state (after_begin_compact pin m.state) m,
          after (IsTrue (g.tells old.disk)) (IsTrue (g.tells disk)) (λ t. subst IsTrue telling t) (λ t. t) m s step (λ t. s),
          refl,
          step,
        ))
        (λ m s.
        let step = its_step m s.has s.sound.fits.jobs in (
          with_state (after_begin_compact pin m.state) m,
          after ⊥ ⊥ (λ bad. bad) (λ bad. absurd bad) m s step (λ bad. absurd bad),
          step,
        ))
        (λ told m s hold is_open stays f among. stay told m s hold is_open f among) kept_stay
        (λ told f among. one_begun file f (IsEmptied (g.held disk) (g.may_leave disk)) (empty told) among) (λ told. tt) (λ shows h. tt)
        (calls_exact g old.disk disk 2 0 0 (λ low. low) result made fine) (calls_unread g old.disk disk 2 0 0 (λ low. low) result made)

  pub did_compact_fail : (infos : Vec InfoParts Global) (jobs : Jobs) (pins : Vec (Option (List ℕ)) Global) (faults : ℕ) → faults ≡ g.faults disk → IsErr result
      → KeepsRooms old.state.list old.state.infos infos old.state.jobs jobs → SamePins old.state.pins.items pins.items
      → Did g old BeginCompact (Refused Fault) (record old { disk = disk; state = record old.state { infos = infos; jobs = jobs; pins = pins; read_only = Some faults } })
  did_compact_fail infos jobs pins faults counted err kept same =
      let rose = calls_rose g old.disk disk 2 0 0 (λ low. low) result made err in
      subst (λ (n : ℕ). Did g old BeginCompact (Refused Fault) (record old { disk = disk; state = record old.state { infos = infos; jobs = jobs; pins = pins; read_only = Some n } })) (sym counted)
      (did_kept g old disk old.cache (λ m s fits. fits) (record old.state { infos = infos; jobs = jobs; pins = pins; read_only = Some (g.faults disk) }) kept.infos BeginCompact refl (Refused Fault) (calls_fault g old.disk disk 2 0 0 (λ low. low) result made err) run_keeps refl (adds_none BeginCompact refl (Refused Fault) _)
      (λ m s. (
        broken (g.faults disk) m,
        stands_kept (IsTrue (g.tells old.disk)) (IsTrue (g.tells disk)) (g.held old.disk) (g.held disk) (g.may_leave old.disk) (g.may_leave disk) old.state (record old.state { infos = infos; jobs = jobs; pins = pins; read_only = Some (g.faults disk) }) m
            (broken (g.faults disk) m) (g.faults old.disk) (g.faults disk) BeginCompact (Refused Fault) (λ t. subst IsTrue telling t) s (Breaks (free m s.has) refl refl rose refl) refl (has m s.has) refl
            (λ told. (run_keeps told m s).now) (λ told. built_same (g.held disk) old.state infos m kept.infos (described_below (g.held old.disk) (g.held disk) old.state m s.has (same_held told m s.has) (s.built told)))
            (λ told is. absurd (let bad : Some (g.faults disk) ≡ None = is in cc)) (λ is. absurd (let bad : Some (g.faults disk) ≡ None = is in cc)) (λ told is. absurd (let bad : Some (g.faults disk) ≡ None = is in cc))
            (λ told is. absurd (let bad : Some (g.faults disk) ≡ None = is in cc)),
        refl,
        Breaks (free m s.has) refl refl rose refl,
      ))
      (λ m s. (
        broken (g.faults disk) m,
        stands_kept ⊥ ⊥ (g.held old.disk) (g.held disk) (g.may_leave old.disk) (g.may_leave disk) old.state (record old.state { infos = infos; jobs = jobs; pins = pins; read_only = Some (g.faults disk) }) m
            (broken (g.faults disk) m) (g.faults old.disk) (g.faults disk) BeginCompact (Refused Fault) (λ bad. bad) s (Breaks (free m s.has) refl refl rose refl) refl (has m s.has) refl
            (λ bad. absurd bad) (λ bad. absurd bad) (λ bad. absurd bad) (λ is. absurd (let bad : Some (g.faults disk) ≡ None = is in cc)) (λ bad. absurd bad) (λ bad. absurd bad),
        Breaks (free m s.has) refl refl rose refl,
      ))
      (λ told m s hold is_open stays f among. stay told m s hold is_open f among) kept_stay
      (λ told f among. none_begun (Refused Fault) f _ refl among) (λ told. tt) (λ shows h. tt)
      (calls_most g old.disk disk 2 0 0 (λ low. low) result made) (calls_unread g old.disk disk 2 0 0 (λ low. low) result made))
    where
      has : (m : Machine) → HasState old.state m → HasState (record old.state { infos = infos; jobs = jobs; pins = pins; read_only = Some (g.faults disk) }) (broken (g.faults disk) m)
      has m was = has_stopped (record old.state { infos = infos; jobs = jobs; pins = pins }) (g.faults disk) m (has_room old.state infos jobs pins m kept same was)

-- ---- a number is given back that was just taken

not_named : (n : ℕ) (pins : List (Option (List ℕ))) → is_taken n pins ≡ false → files_at n pins ≡ []
not_named n pins none = by (pin_at n pins) none
  where
    by : (p : Option (List ℕ)) → is_there p ≡ false → files_in p ≡ []
    by None is = refl
    by (Some files) is = absurd (let bad : true ≡ false = is in cc)

pub given_back : (number : ℕ) (files : List ℕ) (old mid new : List (Option (List ℕ))) → Pins number files old mid
    → ((other : ℕ) → is_taken other new ≡ (is_taken other mid && not (number == other))) → ((other : ℕ) → files_at other new ≡ (if number == other then [] else files_at other mid)) → SamePins old new
given_back number files old mid new took taken named = record {
  taken = λ n. taken n ∙ ap (λ (b : Bool). b && not (number == n)) (took.taken n) ∙ was_free n (number == n) refl;
  files = λ n. named n ∙ ap (λ (fs : List ℕ). if number == n then [] else fs) (took.files n) ∙ was_empty n (number == n) refl;
}
  where
    was_free : (n : ℕ) (t : Bool) → (number == n) ≡ t → ((is_taken n old || t) && not t) ≡ is_taken n old
    was_free n true e = both (is_taken n old || true) ∙ sym (ap (λ (k : ℕ). is_taken k old) (sym (same_number number n e)) ∙ took.free)
      where
        both : (b : Bool) → (b && false) ≡ false
        both true = refl
        both false = refl
    was_free n false e = still (is_taken n old)
      where
        still : (b : Bool) → ((b || false) && true) ≡ b
        still true = refl
        still false = refl

    was_empty : (n : ℕ) (t : Bool) → (number == n) ≡ t → (if t then [] else (if t then files else files_at n old)) ≡ files_at n old
    was_empty n true e = sym (ap (λ (k : ℕ). files_at k old) (sym (same_number number n e)) ∙ not_named number old took.free)
    was_empty n false e = refl

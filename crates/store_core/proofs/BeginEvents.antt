-- A flush that begins, as an event of a core.
use Rattle.std.proofs.Common.{◌≡◌, ◌≢◌, inl, ℕ, ◌+◌, ◌-◌, ◌^◌, ◌<◌, ◌≤◌, ◌==◌, min, List, [], ◌++◌, length, map, take, drop, Some, None, Option, IfSome, IsTrue, Bool, true, false, refl, sym, ◌∙◌, ap, subst, arith, Result, IsOk, IsErr}
use Rattle.std.specs.Prelude.{nat_le, Vec}
use Rattle.std.proofs.lemmas.Bool.{le-leb, lt-leb, ne_eqb}
use Rattle.std.proofs.lemmas.List.{take-append-drop}
use Rattle.std.specs.Vec.{vec_len, vec_capacity}
use Rattle.std.specs.declared.alloc.Global.{Global}
use Rattle.span_types.specs.declared.spans.Row.{Row}
use Rattle.span_types.specs.declared.errors.Failed.{Failed}
use Rattle.disk_model.specs.Calls.{Calls}
use Rattle.disk_model.specs.Images.{Image, bytes_of}
use Rattle.disk_model.specs.Crash.{OnlyBytes, Run}
use Rattle.disk_model.specs.declared.disk.Device.{Ghosts}
use Rattle.disk_model.proofs.Runs.{run_more}
use Rattle.head_log.specs.Stands.{SegmentHolds}
use Rattle.block_info.specs.InfoParts.{InfoParts}
use Rattle.block_list.specs.declared.body.ListBody.{ListBody}
use Rattle.live_traces.specs.Parts.{LiveParts}
use Rattle.store_model.specs.State.{Flush, flush_rows, is_among}
use Rattle.store_model.specs.Choice.{most_rows}
use Rattle.store_model.specs.After.{after_begin_flush, taken}
use Rattle.store_model.specs.Event.{Reply, Refusal}
use Rattle.store_model.specs.Event.Event.{BeginFlush}
use Rattle.store_model.specs.Event.Reply.{Nothing, Flushing, Refused}
use Rattle.store_model.specs.Event.Refusal.{ReadOnly, Busy, FilesSpent, Fault, Memory}
use Rattle.store_model.specs.Holds.{Hold, OpenIn, files_of}
use Rattle.store_model.specs.Step.{Machine, Step, early, broken, with_state, if_read_only, if_flushing, if_idle, if_test}
use Rattle.store_model.specs.Step.Step.{Sure, Succeeds, Lacks, Breaks}
use Rattle.store_state.specs.Calls.{MadeCalls}
use Rattle.store_state.specs.Given.{info_files}
use Rattle.store_state.specs.declared.listing.FlushFiles.{FlushFiles}
use Rattle.store_images.specs.Stored.{KeepsStored}
use Rattle.store_images.proofs.Keeping.{keeps_same}
use Rattle.store_files.specs.Files.{SameBelow, IsEmptied}
use Rattle.store_core.specs.Jobs.{ShowsFlush, CommitFits, HasFreshSegment, SameCompaction, open_jobs}
use Rattle.store_core.specs.declared.jobs.Jobs.{Jobs}
use Rattle.store_core.specs.declared.jobs.OpenFlush.{OpenFlush}
use Rattle.store_core.specs.declared.room.CommitRoom.{CommitRoom}
use Rattle.store_core.specs.declared.state.CoreState.{CoreState}
use Rattle.store_core.specs.declared.store.Core.{Core}
use Rattle.store_core.specs.Cores.{HasState, StandsFor, StateShows}
use Rattle.store_files.specs.Described.{AreDescribed}
use Rattle.store_files.specs.BlockReading.{listed_as}
use Rattle.store_files.specs.LogReading.{tail_of}
use Rattle.store_core.proofs.Now.{StandsNow}
use Rattle.store_core.specs.Events.{Did}
use Rattle.store_core.specs.Beginning.{KeepsRooms, unless_rows}
use Rattle.store_files.proofs.Apart.{keeps_below, settled_below}
use Rattle.store_core.proofs.Counted.{calls_fine, calls_fault, calls_rose, calls_exact, calls_most, calls_unread}
use Rattle.store_core.proofs.Kept.{stands_kept, did_kept, described_below}
use Rattle.store_core.proofs.InUse.{used_begun}
use Rattle.store_core.proofs.Logged.{logged_kept}
use Rattle.store_core.proofs.JobRooms.{RoomOfFlush, RoomOfCompaction, SpareFlush, rooms_fewer, two_at_most, flush_shown, compaction_shown, flush_none, spare_compaction_file, low_level}
use Rattle.store_core.proofs.NoJobs.{no_segment}
use Rattle.store_core.specs.Frames.{IsKept}
use Rattle.store_core.proofs.KeptFiles.{kept_low}
use Rattle.store_core.proofs.OpenJobs.{held_low}
use Rattle.store_core.proofs.PushEvents.{OnlyNow, refused_is}
use Rattle.store_core.proofs.Quiet.{quiet, none_begun, one_begun, adds_none}
use Rattle.store_core.proofs.States.{has_stopped}

-- ---- what is tested first

no_flush : (core : CoreState) (m : Machine) → HasState core m → core.jobs.flush ≡ None → m.state.flush ≡ None
no_flush core m has none = subst (λ (k : Option OpenFlush). ShowsFlush k m.state.flush) none has.flush

abbrev early_of : Option ℕ → Option Flush → ℕ → ℕ → Option Reply
early_of read_only flush work next = if_read_only read_only (if_flushing flush (if_idle work next))

early_by : (core : CoreState) (m : Machine) → HasState core m → early m BeginFlush ≡ early_of core.read_only m.state.flush (length core.live.head) core.jobs.next_file
early_by core m has =
    ap (λ (r : Option ℕ). early_of r m.state.flush (length m.state.head) m.state.next_file) has.read_only
    ∙ ap (λ (h : List Row). early_of core.read_only m.state.flush (length h) m.state.next_file) has.head
    ∙ ap (λ (n : ℕ). early_of core.read_only m.state.flush (length core.live.head) n) has.next_file

early_writing : (core : CoreState) (m : Machine) (flush : Option Flush) → HasState core m → core.read_only ≡ None → m.state.flush ≡ flush → early m BeginFlush ≡ early_of None flush (length core.live.head) core.jobs.next_file
early_writing core m flush has writes is =
    early_by core m has
    ∙ ap (λ (r : Option ℕ). early_of r m.state.flush (length core.live.head) core.jobs.next_file) writes
    ∙ ap (λ (f : Option Flush). early_of None f (length core.live.head) core.jobs.next_file) is

pub begin_read_only : (core : CoreState) (m : Machine) (faults : ℕ) → HasState core m → core.read_only ≡ Some faults → early m BeginFlush ≡ Some (Refused (ReadOnly faults))
begin_read_only core m faults has is = early_by core m has ∙ ap (λ (r : Option ℕ). early_of r m.state.flush (length core.live.head) core.jobs.next_file) is

pub begin_busy : (core : CoreState) (m : Machine) (mine : OpenFlush) → HasState core m → core.read_only ≡ None → core.jobs.flush ≡ Some mine → early m BeginFlush ≡ Some (Refused (Busy mine.number))
begin_busy core m mine has writes known =
    let here : ShowsFlush (Some mine) m.state.flush = subst (λ (k : Option OpenFlush). ShowsFlush k m.state.flush) known has.flush in
    early_writing core m (Some here.0) has writes here.1 ∙ ap (λ (n : ℕ). Some (Refused (Busy n))) here.2

pub not_zero : (n : ℕ) → 1 ≤ n → (n == 0) ≡ false
not_zero n some = ne_eqb n 0 (λ is. omega (arith, is, some))

pub begin_idle : (core : CoreState) (m : Machine) → HasState core m → core.read_only ≡ None → core.jobs.flush ≡ None → length core.live.head ≡ 0 → early m BeginFlush ≡ Some Nothing
begin_idle core m has writes none empty = early_writing core m None has writes (no_flush core m has none) ∙ ap (λ (n : ℕ). if_idle n core.jobs.next_file) empty

idle_of : (work next : ℕ) (test : Bool) → (work == 0) ≡ false → nat_le 4294967294 next ≡ test → if_idle work next ≡ if_test test (Refused (FilesSpent next)) None
idle_of work next test some is = ap (λ (t : Bool). if_test t Nothing (if_test (nat_le 4294967294 next) (Refused (FilesSpent next)) None)) some ∙ ap (λ (t : Bool). if_test t (Refused (FilesSpent next)) None) is

pub begin_spent : (core : CoreState) (m : Machine) → HasState core m → core.read_only ≡ None → core.jobs.flush ≡ None → 1 ≤ length core.live.head → 4294967294 ≤ core.jobs.next_file
    → early m BeginFlush ≡ Some (Refused (FilesSpent core.jobs.next_file))
begin_spent core m has writes none some high =
    early_writing core m None has writes (no_flush core m has none) ∙ idle_of (length core.live.head) core.jobs.next_file true (not_zero (length core.live.head) some) (le-leb 4294967294 core.jobs.next_file high)

pub begin_free : (core : CoreState) (m : Machine) → HasState core m → core.read_only ≡ None → core.jobs.flush ≡ None → 1 ≤ length core.live.head → core.jobs.next_file < 4294967294 → early m BeginFlush ≡ None
begin_free core m has writes none some low =
    early_writing core m None has writes (no_flush core m has none) ∙ idle_of (length core.live.head) core.jobs.next_file false (not_zero (length core.live.head) some) (lt-leb 4294967294 core.jobs.next_file low)

pub idle_is : (some : Bool) (m : Machine) → some ≡ false → early m BeginFlush ≡ unless_rows some → early m BeginFlush ≡ Some Nothing
idle_is some m is early_is = early_is ∙ ap (λ (b : Bool). unless_rows b) is

pub free_is : (some : Bool) (m : Machine) → some ≡ true → early m BeginFlush ≡ unless_rows some → early m BeginFlush ≡ None
free_is some m is early_is = early_is ∙ ap (λ (b : Bool). unless_rows b) is

-- ---- nothing was done

refused_calls : (why : Refusal) → why ≢ Fault → (n : ℕ) → MadeCalls BeginFlush (Refused why) n n
refused_calls Fault no_fault n = absurd (no_fault refl)
refused_calls _ no_fault n = refl

pub did_not_begin : {D : Type 0} (g : Ghosts D) (only_now : OnlyNow g) (old : Core D) (why : Refusal) → ((m : Machine) → HasState old.state m → early m BeginFlush ≡ Some (Refused why)) → why ≢ Fault
    → Did g old BeginFlush (Refused why) (record old { state = old.state })
did_not_begin g only_now old why is no_fault =
    quiet g only_now old old.state refl BeginFlush (Refused why) (λ file bytes. refl) (λ e. no_fault (refused_is why Fault e)) (refused_calls why no_fault) refl refl (λ shows. tt) (λ told m s. tt)
    (λ told m s. (m, s, refl, Sure (is m s.has) refl))

pub did_idle : {D : Type 0} (g : Ghosts D) (only_now : OnlyNow g) (old : Core D) → ((m : Machine) → HasState old.state m → early m BeginFlush ≡ Some Nothing)
    → Did g old BeginFlush Nothing (record old { state = old.state })
did_idle g only_now old is =
    quiet g only_now old old.state refl BeginFlush Nothing (λ file bytes. refl) (λ e. let bad : Nothing ≡ Refused Fault = e in cc) (λ n. refl) refl refl (λ shows. tt) (λ told m s. tt)
    (λ told m s. (m, s, refl, Sure (is m s.has) refl))

-- ---- memory was taken

-- the parts in memory without an open flush, or with its rows back in front of the head
pub record SameRows (old new : LiveParts) : Type 0 where
  pub live : new.live ≡ old.live
  pub head : new.head ≡ old.flushing ++ old.head
  pub flushing : new.flushing ≡ []

-- no row is in a flush where none is open
none_flushing : (core : CoreState) (m : Machine) → HasState core m → core.jobs.flush ≡ None → core.live.flushing ≡ []
none_flushing core m has none = has.flushing ∙ ap flush_rows (no_flush core m has none)

has_memory : (core : CoreState) (live : LiveParts) (infos : Vec InfoParts Global) (jobs : Jobs) (m : Machine) → core.jobs.flush ≡ None → KeepsRooms core.list core.infos infos core.jobs jobs → SameRows core.live live → HasState core m
    → HasState (record core { live = live; infos = infos; jobs = jobs }) m
has_memory core live infos jobs m none kept rows has = record {
  count = has.count;
  few = has.few;
  live = has.live ∙ sym rows.live;
  head = has.head ∙ sym (rows.head ∙ ap (λ (r : List Row). r ++ core.live.head) (none_flushing core m has none));
  flushing = rows.flushing ∙ sym (ap flush_rows (no_flush core m has none));
  flush = flush_shown core.jobs.flush jobs.flush m.state.flush kept.same.flush has.flush;
  compaction = compaction_shown core.jobs.compaction jobs.compaction m.state.compaction kept.same.compaction has.compaction;
  blocks = has.blocks;
  infos = ap info_files kept.infos ∙ has.infos;
  listed = ap (map listed_as) kept.infos ∙ has.listed;
  commit = λ free. kept.rooms (has.commit free);
  rules = has.rules;
  segments = has.segments;
  last = has.last;
  floor = has.floor;
  loose = has.loose ∙ sym kept.same.loose;
  next_file = has.next_file ∙ sym kept.same.next_file;
  begun = has.begun ∙ sym kept.same.begun;
  jobs = kept.fit has.jobs;
  used = has.used;
  pins = has.pins;
  pinned = has.pinned;
  read_only = has.read_only;
}

-- the blocks are described by the same information
pub built_same : (held : Image) (core : CoreState) (infos : Vec InfoParts Global) (m : Machine) → infos.items ≡ core.infos.items → AreDescribed held core.infos.items m.state.blocks → AreDescribed held infos.items m.state.blocks
built_same held core infos m known was = subst (λ (i : List InfoParts). AreDescribed held i m.state.blocks) (sym known) was

pub did_lack : {D : Type 0} (g : Ghosts D) (only_now : OnlyNow g) (old : Core D) (live : LiveParts) (infos : Vec InfoParts Global) (jobs : Jobs) → ((m : Machine) → HasState old.state m → early m BeginFlush ≡ None)
    → old.state.jobs.flush ≡ None → KeepsRooms old.state.list old.state.infos infos old.state.jobs jobs
    → ((m : Machine) → HasState old.state m → SameRows old.state.live live) → Did g old BeginFlush (Refused Memory) (record old { state = record old.state { live = live; infos = infos; jobs = jobs } })
did_lack {D} g only_now old live infos jobs free none kept rows =
    quiet g only_now old (record old.state { live = live; infos = infos; jobs = jobs }) kept.infos BeginFlush (Refused Memory) (λ file bytes. refl) (λ e. let bad = refused_is Memory Fault e in cc) (λ n. refl) refl refl (λ shows. tt) (λ told m s. tt)
    (λ told m s.
    let step : Step (g.faults old.disk) (g.faults old.disk) m BeginFlush (Refused Memory) m = Lacks (free m s.has) refl refl refl in (
      m,
      stands_kept told told (g.held old.disk) (g.held old.disk) (g.may_leave old.disk) (g.may_leave old.disk) old.state (record old.state { live = live; infos = infos; jobs = jobs }) m m (g.faults old.disk) (g.faults old.disk) BeginFlush (Refused Memory)
          (λ t. t) s step refl (has_memory old.state live infos jobs m none kept (rows m s.has) s.has) refl (λ t image left. (image, left, keeps_same image)) (λ t. built_same (g.held old.disk) old.state infos m kept.infos (s.built t)) s.settled (λ free. free)
          (λ t free. no_segment (g.held old.disk) (g.may_leave old.disk) jobs (flush_none old.state.jobs.flush jobs.flush kept.same.flush none)) s.logged,
      refl,
      step,
    ))

-- ---- the files were made, or a call failed

-- the memory of a core in which a flush has begun
pub record Begun (old new : Jobs) (files : FlushFiles) (list : ListBody) (room : CommitRoom) : Type 0 where
  pub next_file : new.next_file ≡ old.next_file + 2
  pub number : new.begun ≡ min (old.begun + 1) (2 ^ 64 - 1)
  pub loose : new.loose.items ≡ old.loose.items
  pub flush : new.flush ≡ Some (record { number = new.begun; files = files; room = Some room })
  pub compaction : SameCompaction old.compaction new.compaction
  pub loose_room : vec_len new.loose + length list.segments + length list.blocks + 4 ≤ vec_capacity new.loose
  pub mine : CommitFits room list (vec_len new.loose) 2
  pub other : RoomOfCompaction list (vec_len new.loose) 2 new.compaction

pub record TakesHead (old new : LiveParts) (rows : List Row) : Type 0 where
  pub live : new.live ≡ old.live
  pub taken : rows ≡ take most_rows (old.flushing ++ old.head)
  pub flushing : new.flushing ≡ rows
  pub head : new.head ≡ drop most_rows (old.flushing ++ old.head)

has_begun : (core : CoreState) (live : LiveParts) (infos : Vec InfoParts Global) (jobs : Jobs) (m : Machine) (files : FlushFiles) (room : CommitRoom) (rows : List Row) → core.jobs.flush ≡ None → core.jobs.next_file < 4294967294
    → files.block ≡ core.jobs.next_file → files.segment ≡ core.jobs.next_file + 1 → m.state.begun + 3 ≤ m.state.next_file
    → infos.items ≡ core.infos.items → vec_len infos + 2 ≤ vec_capacity infos → Begun core.jobs jobs files core.list room → TakesHead core.live live rows → HasState core m
    → HasState (record core { live = live; infos = infos; jobs = jobs }) (with_state (after_begin_flush m.state) m)
has_begun core live infos jobs m files room rows none below block segment fits known spare begun takes has =
    let whole : core.live.flushing ++ core.live.head ≡ m.state.head = ap (λ (r : List Row). r ++ core.live.head) (none_flushing core m has none) ∙ sym has.head in
    let number : m.state.begun + 1 ≡ jobs.begun = (let was = has.begun in let next = has.next_file in let now = begun.number in omega (arith, was, next, now, fits, below)) in
    record {
      count = has.count;
      few = has.few;
      live = has.live ∙ sym takes.live;
      head = ap (λ (r : List Row). drop most_rows r) (sym whole) ∙ sym takes.head;
      flushing = takes.flushing ∙ takes.taken ∙ ap (λ (r : List Row). take most_rows r) whole;
      flush = subst (λ (k : Option OpenFlush). ShowsFlush k (Some (taken m.state))) (sym begun.flush) (
        taken m.state,
        refl,
        number,
        record { block = block ∙ sym has.next_file; segment = segment ∙ ap (λ (n : ℕ). n + 1) (sym has.next_file) },
      );
      compaction = compaction_shown core.jobs.compaction jobs.compaction m.state.compaction begun.compaction has.compaction;
      blocks = has.blocks;
      infos = ap info_files known ∙ has.infos;
      listed = ap (map listed_as) known ∙ has.listed;
      commit = λ free. record {
        rooms = rooms_fewer jobs core.list 2 (open_jobs jobs) (two_at_most jobs) (record {
          flush = subst (λ (k : Option OpenFlush). RoomOfFlush core.list (vec_len jobs.loose) 2 k) (sym begun.flush) (room, refl, begun.mine);
          compaction = begun.other;
        });
        infos = λ some. let few = two_at_most jobs in omega (arith, few, spare);
      };
      rules = has.rules;
      segments = has.segments;
      last = has.last;
      floor = has.floor;
      loose = has.loose ∙ sym begun.loose;
      next_file = ap (λ (n : ℕ). n + 2) has.next_file ∙ sym begun.next_file;
      begun = number;
      jobs = record {
        given = (let was = has.jobs.given in let next = begun.next_file in omega (arith, was, next));
        flush = subst (λ (k : Option OpenFlush). SpareFlush core.list k) (sym begun.flush)
            (let was = has.jobs.given in (inl (omega (arith, was, block)), inl (omega (arith, was, segment))));
        compaction = spare_compaction_file core.list core.jobs.compaction jobs.compaction begun.compaction has.jobs.compaction;
        level = low_level core.jobs.compaction jobs.compaction begun.compaction has.jobs.level;
        room = λ some. let few = two_at_most jobs in let room = begun.loose_room in omega (arith, few, room);
      };
      used = used_begun core.list m.state (no_flush core m has none) has.used;
      pins = has.pins;
      pinned = has.pinned;
      read_only = has.read_only;
    }

module _ {D : Type 0} (g : Ghosts D) (old : Core D) (disk : D) (files : FlushFiles) (writes : old.state.read_only ≡ None) (none : old.state.jobs.flush ≡ None) (below : old.state.jobs.next_file < 4294967294)
    (block : files.block ≡ old.state.jobs.next_file) (segment : files.segment ≡ old.state.jobs.next_file + 1) (free : (m : Machine) → HasState old.state m → early m BeginFlush ≡ None)
    (result : Result (Unit {0}) Failed) (made : Calls g 5 2 old.disk disk result)
    (run : (limit : ℕ) → limit ≤ files.block → limit ≤ files.segment → Run (SameBelow limit) g.moment g.left_since g.may_leave old.disk disk)
    (others : IsTrue (g.tells old.disk) → (file : ℕ) → file ≢ files.block → file ≢ files.segment → bytes_of (g.held disk) file ≡ bytes_of (g.held old.disk) file) where
  telling : g.tells disk ≡ g.tells old.disk
  telling = made.telling

  abbrev limit : ℕ
  limit = old.state.list.next_file

  run_below : (m : Machine) → HasState old.state m → Run (SameBelow limit) g.moment g.left_since g.may_leave old.disk disk
  run_below m has = let given = has.jobs.given in run limit (omega (arith, given, block)) (omega (arith, given, segment))

  run_keeps : IsTrue (g.tells old.disk) → (m : Machine) → StandsNow g old m → Run KeepsStored g.moment g.left_since g.may_leave old.disk disk
  run_keeps told m s =
      run_more g.moment g.left_since g.may_leave (SameBelow limit) KeepsStored old.disk disk (run_below m s.has)
      (λ origin image possible same. keeps_below (g.held old.disk) (g.may_leave old.disk) old.state.list (s.settled told writes).lies.ready origin image possible same)

  same_held : IsTrue (g.tells old.disk) → (m : Machine) → HasState old.state m → SameBelow limit (g.held old.disk) (g.held disk)
  same_held told m has = λ f under. let given = has.jobs.given in others told f (λ is. omega (arith, is, given, block, under)) (λ is. omega (arith, is, given, segment, under))

  stay : IsTrue (g.tells old.disk) → (m : Machine) → StateShows g old m → (hold : Hold) → OpenIn m hold → (file : ℕ) → is_among file (files_of hold) ≡ true → bytes_of (g.held disk) file ≡ bytes_of (g.held old.disk) file
  stay told m s hold is_open file among =
      let under = held_low m hold s.sound is_open file among in
      let next = s.has.next_file in
      others told file (λ is. omega (arith, is, block, under, next)) (λ is. omega (arith, is, segment, under, next))

  kept_stay : IsTrue (g.tells old.disk) → (m : Machine) → StateShows g old m → (file : ℕ) → IsKept file m.state → bytes_of (g.held disk) file ≡ bytes_of (g.held old.disk) file
  kept_stay told m s file is =
      let under = kept_low m.state s.sound file is in
      let next = s.has.next_file in
      others told file (λ is. omega (arith, is, block, under, next)) (λ is. omega (arith, is, segment, under, next))

  module _ (live : LiveParts) (infos : Vec InfoParts Global) (jobs : Jobs) (room : CommitRoom) (rows : List Row) (known : infos.items ≡ old.state.infos.items) (spare : vec_len infos + 2 ≤ vec_capacity infos)
      (begun : Begun old.state.jobs jobs files old.state.list room) (takes : TakesHead old.state.live live rows) where
    after : (told told' : Type 0) → (told' → told) → (told → IsTrue (g.tells old.disk)) → (m : Machine) → StandsFor told (g.held old.disk) (g.may_leave old.disk) old.state m
        → Step (g.faults old.disk) (g.faults disk) m BeginFlush (Flushing (record { number = jobs.begun; file = files.block; rows = rows })) (with_state (after_begin_flush m.state) m)
        → (told → HasFreshSegment (g.held disk) (g.may_leave disk) jobs) → (told → StandsNow g old m)
        → StandsFor told' (g.held disk) (g.may_leave disk) (record old.state { live = live; infos = infos; jobs = jobs }) (with_state (after_begin_flush m.state) m)
    after told told' later_told tells m s step fresh whole =
        stands_kept told told' (g.held old.disk) (g.held disk) (g.may_leave old.disk) (g.may_leave disk) old.state (record old.state { live = live; infos = infos; jobs = jobs }) m (with_state (after_begin_flush m.state) m)
        (g.faults old.disk) (g.faults disk) BeginFlush (Flushing (record { number = jobs.begun; file = files.block; rows = rows })) later_told s step refl
        (has_begun old.state live infos jobs m files room rows none below block segment s.sound.fits.jobs known spare begun takes s.has) refl
        (λ t. (run_keeps (tells t) m (whole t)).now)
        (λ t. built_same (g.held disk) old.state infos m known (described_below (g.held old.disk) (g.held disk) old.state m s.has (same_held (tells t) m s.has) (s.built t)))
        (λ t free. settled_below (g.held old.disk) (g.may_leave old.disk) old.state.list (s.settled t writes).lies.ready (g.held disk) (g.may_leave disk) (same_held (tells t) m s.has) (run_below m s.has).now
        m.state.blocks (tail_of old.state.segment) m.history (s.settled t writes))
        (λ free. free) (λ t free. fresh t)
        (λ t free. logged_kept (g.held old.disk) (g.held disk) old.state.list (g.faults old.disk) (g.faults disk) m (with_state (after_begin_flush m.state) m) BeginFlush (Flushing (record { number = jobs.begun; file = files.block; rows = rows }))
        s.has.rules (same_held (tells t) m s.has) step refl (s.logged t writes))

    its_step : (m : Machine) → HasState old.state m → m.state.begun + 3 ≤ m.state.next_file → Step (g.faults old.disk) (g.faults disk) m BeginFlush (Flushing (record { number = jobs.begun; file = files.block; rows = rows })) (with_state (after_begin_flush m.state) m)
    its_step m has fits =
        let whole : old.state.live.flushing ++ old.state.live.head ≡ m.state.head = ap (λ (r : List Row). r ++ old.state.live.head) (none_flushing old.state m has none) ∙ sym has.head in
        let number : jobs.begun ≡ m.state.begun + 1 = (let was = has.begun in let next = has.next_file in let now = begun.number in omega (arith, was, next, now, fits, below)) in
        let its_rows : rows ≡ take most_rows m.state.head = takes.taken ∙ ap (λ (r : List Row). take most_rows r) whole in
        Succeeds (free m has) (
          ap (λ (n : ℕ). Flushing (record { number = n; file = files.block; rows = rows })) number ∙ ap (λ (f : ℕ). Flushing (record { number = m.state.begun + 1; file = f; rows = rows })) (block ∙ sym has.next_file) ∙ ap (λ (r : List Row). Flushing (record { number = m.state.begun + 1; file = m.state.next_file; rows = r })) its_rows,
          refl,
        )

    pub did_begin : IsOk result → (IsTrue (g.tells old.disk) → IsEmptied (g.held disk) (g.may_leave disk) files.block)
        → (IsTrue (g.tells old.disk) → ((first : ℕ) → SegmentHolds first [] 1 (bytes_of (g.held disk) files.segment)) × OnlyBytes files.segment (bytes_of (g.held disk) files.segment) (g.may_leave disk))
        → Did g old BeginFlush (Flushing (record { number = jobs.begun; file = files.block; rows = rows })) (record old { disk = disk; state = record old.state { live = live; infos = infos; jobs = jobs } })
    did_begin fine empty fresh =
        did_kept g old disk old.cache (λ m s fits. fits) (record old.state { live = live; infos = infos; jobs = jobs }) known BeginFlush refl (Flushing (record { number = jobs.begun; file = files.block; rows = rows }))
        (calls_fine g old.disk disk 5 2 0 (λ low. omega arith) result made fine (Flushing (record { number = jobs.begun; file = files.block; rows = rows })) (λ is. let bad : Flushing (record { number = jobs.begun; file = files.block; rows = rows }) ≡ Refused Fault = is in absurd cc))
        run_keeps refl refl
        (λ m s.
        let step = its_step m s.has s.sound.fits.jobs in (
          with_state (after_begin_flush m.state) m,
          after (IsTrue (g.tells old.disk)) (IsTrue (g.tells disk)) (λ t. subst IsTrue telling t) (λ t. t) m s step (λ t. its_segment t) (λ t. s),
          refl,
          step,
        ))
        (λ m s.
        let step = its_step m s.has s.sound.fits.jobs in (
          with_state (after_begin_flush m.state) m,
          after ⊥ ⊥ (λ bad. bad) (λ bad. absurd bad) m s step (λ bad. absurd bad) (λ bad. absurd bad),
          step,
        ))
        (λ told m s hold is_open stays f among. stay told m s hold is_open f among) kept_stay
        (λ told f among. one_begun files.block f (IsEmptied (g.held disk) (g.may_leave disk)) (empty told) among) (λ told. tt) (λ shows h. tt)
        (calls_exact g old.disk disk 5 2 0 (λ low. omega arith) result made fine) (calls_unread g old.disk disk 5 2 0 (λ low. omega arith) result made)
      where
        its_segment : IsTrue (g.tells old.disk) → HasFreshSegment (g.held disk) (g.may_leave disk) jobs
        its_segment told = subst (λ (k : Option OpenFlush). IfSome k (λ mine. ((first : ℕ) → SegmentHolds first [] 1 (bytes_of (g.held disk) mine.files.segment))
            × OnlyBytes mine.files.segment (bytes_of (g.held disk) mine.files.segment) (g.may_leave disk))) (sym begun.flush) (fresh told)

    pub did_begin_as : IsOk result → (number : ℕ) → number ≡ jobs.begun → (IsTrue (g.tells old.disk) → IsEmptied (g.held disk) (g.may_leave disk) files.block)
        → (IsTrue (g.tells old.disk) → ((first : ℕ) → SegmentHolds first [] 1 (bytes_of (g.held disk) files.segment)) × OnlyBytes files.segment (bytes_of (g.held disk) files.segment) (g.may_leave disk))
        → Did g old BeginFlush (Flushing (record { number = number; file = files.block; rows = rows })) (record old { disk = disk; state = record old.state { live = live; infos = infos; jobs = jobs } })
    did_begin_as fine number is empty fresh =
        subst (λ (n : ℕ). Did g old BeginFlush (Flushing (record { number = n; file = files.block; rows = rows })) (record old { disk = disk; state = record old.state { live = live; infos = infos; jobs = jobs } })) (sym is) (did_begin fine empty fresh)

  pub did_begin_fail : (live : LiveParts) (infos : Vec InfoParts Global) (jobs : Jobs) (faults : ℕ) → faults ≡ g.faults disk → IsErr result
      → KeepsRooms old.state.list old.state.infos infos old.state.jobs jobs
      → ((m : Machine) → HasState old.state m → SameRows old.state.live live)
      → Did g old BeginFlush (Refused Fault) (record old { disk = disk; state = record old.state { live = live; infos = infos; jobs = jobs; read_only = Some faults } })
  did_begin_fail live infos jobs faults counted err kept rows =
      let rose = calls_rose g old.disk disk 5 2 0 (λ low. omega arith) result made err in
      subst (λ (n : ℕ). Did g old BeginFlush (Refused Fault) (record old { disk = disk; state = record old.state { live = live; infos = infos; jobs = jobs; read_only = Some n } })) (sym counted)
      (did_kept g old disk old.cache (λ m s fits. fits) (record old.state { live = live; infos = infos; jobs = jobs; read_only = Some (g.faults disk) }) kept.infos BeginFlush refl (Refused Fault) (calls_fault g old.disk disk 5 2 0 (λ low. omega arith) result made err) run_keeps refl (adds_none BeginFlush refl (Refused Fault) _)
      (λ m s. (
        broken (g.faults disk) m,
        stands_kept (IsTrue (g.tells old.disk)) (IsTrue (g.tells disk)) (g.held old.disk) (g.held disk) (g.may_leave old.disk) (g.may_leave disk) old.state (record old.state { live = live; infos = infos; jobs = jobs; read_only = Some (g.faults disk) }) m (broken (g.faults disk) m)
            (g.faults old.disk) (g.faults disk) BeginFlush (Refused Fault) (λ t. subst IsTrue telling t) s (Breaks (free m s.has) refl refl rose refl) refl (has m s.has) refl
            (λ told. (run_keeps told m s).now) (λ told. built_same (g.held disk) old.state infos m kept.infos (described_below (g.held old.disk) (g.held disk) old.state m s.has (same_held told m s.has) (s.built told)))
            (λ told is. absurd (let bad : Some (g.faults disk) ≡ None = is in cc)) (λ is. absurd (let bad : Some (g.faults disk) ≡ None = is in cc)) (λ told is. absurd (let bad : Some (g.faults disk) ≡ None = is in cc))
            (λ told is. absurd (let bad : Some (g.faults disk) ≡ None = is in cc)),
        refl,
        Breaks (free m s.has) refl refl rose refl,
      ))
      (λ m s. (
        broken (g.faults disk) m,
        stands_kept ⊥ ⊥ (g.held old.disk) (g.held disk) (g.may_leave old.disk) (g.may_leave disk) old.state (record old.state { live = live; infos = infos; jobs = jobs; read_only = Some (g.faults disk) }) m (broken (g.faults disk) m)
            (g.faults old.disk) (g.faults disk) BeginFlush (Refused Fault) (λ bad. bad) s (Breaks (free m s.has) refl refl rose refl) refl (has m s.has) refl
            (λ bad. absurd bad) (λ bad. absurd bad) (λ bad. absurd bad) (λ is. absurd (let bad : Some (g.faults disk) ≡ None = is in cc)) (λ bad. absurd bad) (λ bad. absurd bad),
        Breaks (free m s.has) refl refl rose refl,
      ))
      (λ told m s hold is_open stays f among. stay told m s hold is_open f among) kept_stay
      (λ told f among. none_begun (Refused Fault) f _ refl among) (λ told. tt) (λ shows h. tt)
      (calls_most g old.disk disk 5 2 0 (λ low. omega arith) result made) (calls_unread g old.disk disk 5 2 0 (λ low. omega arith) result made))
    where
      has : (m : Machine) → HasState old.state m → HasState (record old.state { live = live; infos = infos; jobs = jobs; read_only = Some (g.faults disk) }) (broken (g.faults disk) m)
      has m was = has_stopped (record old.state { live = live; infos = infos; jobs = jobs }) (g.faults disk) m (has_memory old.state live infos jobs m none kept (rows m was) was)

-- the rows that were taken are put back
pub back_in_front : (old mid new : LiveParts) (rows : List Row) → TakesHead old mid rows → new.head ≡ mid.flushing ++ mid.head → new.flushing ≡ [] → new.live ≡ mid.live → SameRows old new
back_in_front old mid new rows takes head flushing live = record {
  live = live ∙ takes.live;
  head = head ∙ ap (λ (r : List Row). r ++ mid.head) (takes.flushing ∙ takes.taken) ∙ ap (λ (r : List Row). take most_rows (old.flushing ++ old.head) ++ r) takes.head ∙ take-append-drop most_rows (old.flushing ++ old.head);
  flushing = flushing;
}

-- What a core stands for after a change of its memory.
use Rattle.std.proofs.Common.{◌≡◌, ℕ, ◌+◌, ◌<◌, ◌≤◌, List, [], ◌∷◌, ◌++◌, Some, None, Option, refl, sym, ◌∙◌, ap, subst, arith}
use Rattle.std.specs.Prelude.{Vec}
use Rattle.std.specs.Vec.{vec_capacity}
use Rattle.std.specs.declared.alloc.Global.{Global}
use Rattle.span_types.specs.declared.spans.Span.{Span}
use Rattle.disk_model.specs.Images.{Image}
use Rattle.head_log.specs.declared.segment.Segment.{Segment}
use Rattle.block_list.specs.declared.body.SegmentRef.{SegmentRef}
use Rattle.live_traces.specs.Parts.{LiveParts}
use Rattle.live_traces.specs.Rows.{ChunkParts}
use Rattle.store_entries.specs.declared.entry.Entry.{Entry}
use Rattle.store_model.specs.History.{batch_rows, count_of, pushed, push_of}
use Rattle.store_model.specs.State.{State, Block, LiveRow}
use Rattle.store_model.specs.After.{arrived, after_push}
use Rattle.store_model.specs.Event.{Event, Reply}
use Rattle.store_model.specs.Event.Event.{Push}
use Rattle.store_model.specs.Event.Reply.{Count}
use Rattle.store_model.specs.Step.{Machine, Step, early, broken, with_state}
use Rattle.store_model.specs.Step.Step.{Succeeds}
use Rattle.store_model.proofs.KeepsFirsts.{step_keeps as keeps_firsts}
use Rattle.store_model.proofs.KeepsSound.{step_keeps as keeps_sound}
use Rattle.store_model.proofs.KeepsFloor.{step_keeps as keeps_floor}
use Rattle.store_images.specs.Stored.{MayStandFor}
use Rattle.store_images.specs.Settled.{IsSettled}
use Rattle.store_images.proofs.Growing.{count_of-pushed}
use Rattle.store_images.proofs.Storing.{settled_now}
use Rattle.store_core.specs.declared.state.CoreState.{CoreState}
use Rattle.store_core.specs.declared.jobs.Jobs.{Jobs}
use Rattle.store_core.specs.Jobs.{HasFreshSegment, SameJobs}
use Rattle.store_files.specs.Pins.{is_taken, files_at}
use Rattle.store_core.proofs.JobRooms.{compaction_shown, fit_kept, flush_shown, same_jobs}
use Rattle.store_core.specs.Cores.{HasState, StandsFor}
use Rattle.store_files.specs.Described.{AreDescribed}
use Rattle.store_files.specs.LogReading.{tail_of}
use Rattle.store_core.specs.Waiting.{rows_outside, AreLogged}
use Rattle.store_core.proofs.Logged.{logged_still}

abbrev pub ref_to : ℕ → ℕ → SegmentRef
ref_to file first = record { file = file; first = first }

-- the same rows, with room for others
pub record SameParts (old new : LiveParts) : Type 0 where
  pub live : new.live ≡ old.live
  pub head : new.head ≡ old.head
  pub flushing : new.flushing ≡ old.flushing

-- ---- memory for a push was taken, and no more was done

pub has_same : (core : CoreState) (live : LiveParts) (m : Machine) → SameParts core.live live → HasState core m → HasState (record core { live = live }) m
has_same core live m same has = record {
  count = has.count;
  few = has.few;
  live = has.live ∙ sym same.live;
  head = has.head ∙ sym same.head;
  flushing = same.flushing ∙ has.flushing;
  flush = has.flush;
  compaction = has.compaction;
  blocks = has.blocks;
  infos = has.infos;
  listed = has.listed;
  commit = has.commit;
  rules = has.rules;
  segments = has.segments;
  last = has.last;
  floor = has.floor;
  loose = has.loose;
  next_file = has.next_file;
  begun = has.begun;
  jobs = has.jobs;
  used = has.used;
  pins = has.pins;
  pinned = has.pinned;
  read_only = has.read_only;
}

pub stands_lacking : (told : Type 0) (held : Image) (may_leave : Image → Type 0) (core : CoreState) (live : LiveParts) (m : Machine) → SameParts core.live live
    → StandsFor told held may_leave core m → StandsFor told held may_leave (record core { live = live }) m
stands_lacking told held may_leave core live m same s = record {
  has = has_same core live m same s.has;
  agrees = s.agrees;
  sound = s.sound;
  above = s.above;
  built = s.built;
  now = s.now;
  settled = s.settled;
  sure = s.sure;
  fresh = s.fresh;
  logged = s.logged;
}

-- ---- a push was added

abbrev pub after_pushed : List Span → ℕ → Machine → Machine
after_pushed spans moment m = record {
  state = after_push (count_of m.history) spans moment m.state;
  history = pushed m.history spans;
  read_only = m.read_only;
}

pub step_pushed : (before faults : ℕ) (m : Machine) (spans : List Span) (moment number : ℕ) → number ≡ count_of m.history → early m (Push spans moment) ≡ None
    → Step before faults m (Push spans moment) (Count number) (after_pushed spans moment m)
step_pushed before faults m spans moment number is free = Succeeds free (ap Count is, refl)

pub has_pushed : (core : CoreState) (live : LiveParts) (segment : Segment) (m : Machine) (spans : List Span) (moment number : ℕ) → HasState core m
    → live.live ≡ core.live.live ++ arrived moment (batch_rows number spans) → live.head ≡ core.live.head → live.flushing ≡ core.live.flushing
    → number ≡ core.segment.first + core.segment.count → number < 4294967295
    → segment.file ≡ core.segment.file → segment.first ≡ core.segment.first → segment.count ≡ core.segment.count + 1
    → HasState (record core { live = live; segment = segment }) (after_pushed spans moment m)
has_pushed core live segment m spans moment number has added head flushing is below file first count =
    let grown = count_of-pushed m.history spans in
    let was = has.count in
    record {
      count = omega (arith, grown, was, first, count);
      few = omega (arith, is, below, first, count);
      live = ap (λ (l : List LiveRow). l ++ arrived moment (batch_rows (count_of m.history) spans)) has.live
          ∙ ap (λ (n : ℕ). core.live.live ++ arrived moment (batch_rows n spans)) (was ∙ sym is) ∙ sym added;
      head = has.head ∙ sym head;
      flushing = flushing ∙ has.flushing;
      flush = has.flush;
      compaction = has.compaction;
      blocks = has.blocks;
      infos = has.infos;
      listed = has.listed;
      commit = has.commit;
      rules = has.rules;
      segments = has.segments;
      last = (
        has.last.0,
        has.last.1 ∙ ap (λ (n : ℕ). has.last.0 ++ ref_to n core.segment.first ∷ []) (sym file) ∙ ap (λ (n : ℕ). has.last.0 ++ ref_to segment.file n ∷ []) (sym first),
      );
      floor = has.floor;
      loose = has.loose;
      next_file = has.next_file;
      begun = has.begun;
      jobs = has.jobs;
      used = has.used;
      pins = has.pins;
      pinned = has.pinned;
      read_only = has.read_only;
    }

pub stands_pushed : (told told' : Type 0) (held held' : Image) (may_leave may_leave' : Image → Type 0) (core : CoreState) (live : LiveParts) (segment : Segment) (m : Machine) (spans : List Span) (moment number before faults : ℕ)
    → StandsFor told held may_leave core m → (told' → told) → core.read_only ≡ None
    → Step before faults m (Push spans moment) (Count number) (after_pushed spans moment m)
    → HasState (record core { live = live; segment = segment }) (after_pushed spans moment m)
    → (told → IsSettled held may_leave core.list m.state.blocks (tail_of core.segment) m.history
    → IsSettled held' may_leave' core.list m.state.blocks (tail_of segment) (pushed m.history spans))
    → (told → AreDescribed held' core.infos.items m.state.blocks) → (told → HasFreshSegment held' may_leave' core.jobs)
    → (told → IsSettled held may_leave core.list m.state.blocks (tail_of core.segment) m.history → AreLogged held core.list (rows_outside m.state)
    → AreLogged held' core.list (rows_outside (after_pushed spans moment m).state))
    → StandsFor told' held' may_leave' (record core { live = live; segment = segment }) (after_pushed spans moment m)
stands_pushed told told' held held' may_leave may_leave' core live segment m spans moment number before faults s known writes step has settles built fresh logged = record {
  has = has;
  agrees = keeps_firsts before faults m _ _ _ s.agrees step;
  sound = keeps_sound before faults m _ _ _ s.sound step;
  above = keeps_floor before faults m _ _ _ s.above step;
  built = λ t. built (known t);
  now = λ t image left. subst (λ (u : Option Entry). MayStandFor (pushed m.history spans) u image) (sym (s.sure writes))
      (settled_now held' may_leave' core.list m.state.blocks (tail_of segment) (pushed m.history spans) (settles (known t) (s.settled (known t) writes)) image left);
  settled = λ t free. settles (known t) (s.settled (known t) writes);
  sure = s.sure;
  fresh = λ t free. fresh (known t);
  logged = λ t free. logged (known t) (s.settled (known t) writes) (s.logged (known t) writes);
}

-- ---- a push answered a fault

pub has_broken : (core : CoreState) (live : LiveParts) (segment : Segment) (ready : ChunkParts) (faults : ℕ) (m : Machine) → SameParts core.live live → segment ≡ core.segment → HasState core m
    → HasState (record core { live = live; segment = segment; read_only = Some faults; unsure = Some ready }) (broken faults m)
has_broken core live segment ready faults m same still has = record {
  count = has.count ∙ sym (ap (λ (x : Segment). x.first + x.count) still);
  few = subst (λ (x : Segment). x.first + x.count ≤ 4294967295) (sym still) has.few;
  live = has.live ∙ sym same.live;
  head = has.head ∙ sym same.head;
  flushing = same.flushing ∙ has.flushing;
  flush = has.flush;
  compaction = has.compaction;
  blocks = has.blocks;
  infos = has.infos;
  listed = has.listed;
  commit = λ none. absurd (let bad : Some faults ≡ None = none in cc);
  rules = has.rules;
  segments = has.segments;
  last = (has.last.0, has.last.1 ∙ ap (λ (x : Segment). has.last.0 ++ ref_to x.file x.first ∷ []) (sym still));
  floor = has.floor;
  loose = has.loose;
  next_file = has.next_file;
  begun = has.begun;
  jobs = has.jobs;
  used = has.used;
  pins = has.pins;
  pinned = has.pinned;
  read_only = refl;
}

pub stands_broken : (told told' : Type 0) (held held' : Image) (may_leave may_leave' : Image → Type 0) (core : CoreState) (live : LiveParts) (segment : Segment) (ready : ChunkParts) (faults : ℕ) (m : Machine)
    → SameParts core.live live → segment ≡ core.segment → StandsFor told held may_leave core m → (told' → told)
    → (told → (image : Image) → may_leave' image → MayStandFor m.history (Some (push_of ready.spans)) image)
    → (told → AreDescribed held' core.infos.items m.state.blocks)
    → StandsFor told' held' may_leave' (record core { live = live; segment = segment; read_only = Some faults; unsure = Some ready }) (broken faults m)
stands_broken told told' held held' may_leave may_leave' core live segment ready faults m same still s known now built = record {
  has = has_broken core live segment ready faults m same still s.has;
  agrees = s.agrees;
  sound = s.sound;
  above = record { waiting = s.above.waiting; next = s.above.next };
  built = λ t. built (known t);
  now = λ t image left. now (known t) image left;
  settled = λ t none. absurd (let bad : Some faults ≡ None = none in cc);
  sure = λ none. absurd (let bad : Some faults ≡ None = none in cc);
  fresh = λ t none. absurd (let bad : Some faults ≡ None = none in cc);
  logged = λ t none. absurd (let bad : Some faults ≡ None = none in cc);
}

-- ---- a write failed

-- whatever room the jobs have then, and wherever the pins stand
pub has_stopped_with : (core : CoreState) (jobs : Jobs) (pins : Vec (Option (List ℕ)) Global) (faults : ℕ) (m : Machine) → HasState core m → SameJobs core.jobs jobs → vec_capacity core.jobs.loose ≤ vec_capacity jobs.loose
    → ((n : ℕ) → is_taken n pins.items ≡ is_taken n core.pins.items) → ((n : ℕ) → files_at n pins.items ≡ files_at n core.pins.items)
    → HasState (record core { jobs = jobs; pins = pins; read_only = Some faults }) (broken faults m)
has_stopped_with core jobs pins faults m has same more taken named = record {
  count = has.count;
  few = has.few;
  live = has.live;
  head = has.head;
  flushing = has.flushing;
  flush = flush_shown core.jobs.flush jobs.flush m.state.flush same.flush has.flush;
  compaction = compaction_shown core.jobs.compaction jobs.compaction m.state.compaction same.compaction has.compaction;
  blocks = has.blocks;
  infos = has.infos;
  listed = has.listed;
  commit = λ none. absurd (let bad : Some faults ≡ None = none in cc);
  rules = has.rules;
  segments = has.segments;
  last = has.last;
  floor = has.floor;
  loose = has.loose ∙ sym same.loose;
  next_file = has.next_file ∙ sym same.next_file;
  begun = has.begun ∙ sym same.begun;
  jobs = fit_kept core.jobs jobs core.list same more has.jobs;
  used = has.used;
  pins = λ n. has.pins n ∙ sym (taken n);
  pinned = λ n. has.pinned n ∙ sym (named n);
  read_only = refl;
}

pub has_stopped : (core : CoreState) (faults : ℕ) (m : Machine) → HasState core m → HasState (record core { read_only = Some faults }) (broken faults m)
has_stopped core faults m has = has_stopped_with core core.jobs core.pins faults m has (same_jobs core.jobs) (omega arith) (λ n. refl) (λ n. refl)

-- ---- a change of the rows in memory

pub stands_by_rows : (told : Type 0) (held : Image) (may_leave : Image → Type 0) (core : CoreState) (live : LiveParts) (m : Machine) (u : State) (before faults : ℕ) (e : Event) (r : Reply)
    → StandsFor told held may_leave core m → HasState (record core { live = live }) (with_state u m) → u.blocks ≡ m.state.blocks → Step before faults m e r (with_state u m)
    → StandsFor told held may_leave (record core { live = live }) (with_state u m)
stands_by_rows told held may_leave core live m u before faults e r s has blocks step = record {
  has = has;
  agrees = keeps_firsts before faults m _ e r s.agrees step;
  sound = keeps_sound before faults m _ e r s.sound step;
  above = keeps_floor before faults m _ e r s.above step;
  built = λ t. subst (AreDescribed held core.infos.items) (sym blocks) (s.built t);
  now = s.now;
  settled = λ t free. subst (λ (b : List Block). IsSettled held may_leave core.list b (tail_of core.segment) m.history) (sym blocks) (s.settled t free);
  sure = s.sure;
  fresh = s.fresh;
  logged = λ t free. logged_still held core.list before faults m (with_state u m) e r step refl (s.logged t free);
}

pub none_of : {A : Type 0} (o : Option A) → ((x : A) → o ≡ Some x → ⊥) → o ≡ None
none_of None h = refl
none_of (Some x) h = absurd (h x refl)

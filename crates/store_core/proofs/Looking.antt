-- What a look and its end make of a core.
use Rattle.std.proofs.Common.{◌≡◌, ℕ, ◌≤◌, ◌==◌, Bool, false, not, List, [], ◌++◌, Option, Some, None, map, refl, sym, ◌∙◌, ap, subst, if◌then◌else◌}
use Rattle.std.specs.Prelude.{◌||◌, ◌&&◌}
use Rattle.std.specs.Prelude.{Vec}
use Rattle.std.specs.declared.alloc.Global.{Global}
use Rattle.std.specs.List.Sorted.{IsPermutation}
use Rattle.std.proofs.lemmas.List.Sorted.{IsPermutation-refl}
use Rattle.span_types.specs.declared.spans.Row.{Row}
use Rattle.disk_model.specs.Images.{Image}
use Rattle.store_model.specs.State.{State, Flush, Compaction, Pinned, LiveRow, is_among, pin_numbers, pinned_blocks, compaction_pins, block_files, flush_rows, live_rows}
use Rattle.store_model.specs.History.{count_of}
use Rattle.store_model.specs.After.{after_look, after_done}
use Rattle.store_model.specs.Event.{Event, Reply}
use Rattle.store_model.specs.Event.Event.{Look, Done}
use Rattle.store_model.specs.Event.Reply.{Looked, Fine}
use Rattle.store_model.specs.Step.{Machine, Step, IsLookPin, with_state}
use Rattle.store_model.specs.Step.Step.{Succeeds}
use Rattle.store_model.proofs.KeepsFirsts.{step_keeps as keeps_firsts}
use Rattle.store_model.proofs.KeepsSound.{step_keeps as keeps_sound}
use Rattle.store_model.proofs.KeepsFloor.{step_keeps as keeps_floor}
use Rattle.store_files.specs.Pins.{is_taken, files_at}
use Rattle.store_core.specs.declared.jobs.OpenCompaction.{OpenCompaction}
use Rattle.store_core.specs.declared.state.CoreState.{CoreState}
use Rattle.store_images.specs.Stored.{ref_of}
use Rattle.store_images.specs.Settled.{IsSettled}
use Rattle.store_core.specs.Jobs.{ShowsFlush, ShowsCompaction}
use Rattle.store_core.specs.Cores.{HasState, StandsFor}
use Rattle.store_files.specs.Described.{AreDescribed}
use Rattle.store_files.specs.LogReading.{tail_of}
use Rattle.store_core.specs.InUse.{AreInUse}
use Rattle.store_core.proofs.Logged.{logged_still}
use Rattle.store_files.proofs.PinNumbers.{among-more, among-less, files-more, files-less}

-- the pins that are known are those of the model
pub record ShowsPins (pins : List Pinned) (known : List (Option (List ℕ))) : Type 0 where
  pub numbers : (n : ℕ) → is_among n (pin_numbers pins) ≡ is_taken n known
  pub files : (n : ℕ) → block_files (pinned_blocks n pins) ≡ files_at n known

-- a change of the pins alone
has_pins : (core : CoreState) (pins : Vec (Option (List ℕ)) Global) (m m' : Machine) → HasState core m → m'.history ≡ m.history → m'.read_only ≡ m.read_only
    → m'.state ≡ record m.state { pins = m'.state.pins } → ShowsPins m'.state.pins pins.items
    → HasState (record core { pins = pins }) m'
has_pins core pins m m' has history read_only state shown = record {
  count = ap count_of history ∙ has.count;
  few = has.few;
  live = ap (λ (u : State). u.live) state ∙ has.live;
  head = ap (λ (u : State). u.head) state ∙ has.head;
  flushing = has.flushing ∙ ap (λ (u : State). flush_rows u.flush) (sym state);
  flush = subst (λ (f : Option Flush). ShowsFlush core.jobs.flush f) (sym (ap (λ (u : State). u.flush) state)) has.flush;
  compaction = subst (λ (c : Option Compaction). ShowsCompaction core.jobs.compaction c) (sym (ap (λ (u : State). u.compaction) state)) has.compaction;
  blocks = has.blocks ∙ ap (λ (u : State). map ref_of u.blocks) (sym state);
  infos = has.infos ∙ ap (λ (u : State). block_files u.blocks) (sym state);
  listed = has.listed;
  commit = has.commit;
  rules = has.rules;
  segments = ap (λ (u : State). u.segments) state ∙ has.segments;
  last = has.last;
  floor = ap (λ (u : State). u.floor) state ∙ has.floor;
  loose = ap (λ (u : State). u.loose) state ∙ has.loose;
  next_file = ap (λ (u : State). u.next_file) state ∙ has.next_file;
  begun = ap (λ (u : State). u.begun) state ∙ has.begun;
  jobs = has.jobs;
  used = subst (λ (v : State). AreInUse core.list v) (sym state) has.used;
  pins = shown.numbers;
  pinned = shown.files;
  read_only = read_only ∙ has.read_only;
}

-- the core stands for what the step leaves
pub stands_stepped : (told : Type 0) (held : Image) (may_leave : Image → Type 0) (core : CoreState) (pins : Vec (Option (List ℕ)) Global) (m : Machine) (u : State) (before faults : ℕ) (e : Event) (r : Reply)
    → StandsFor told held may_leave core m → u ≡ record m.state { pins = u.pins } → Step before faults m e r (with_state u m)
    → ShowsPins u.pins pins.items
    → StandsFor told held may_leave (record core { pins = pins }) (with_state u m)
stands_stepped told held may_leave core pins m u before faults e r s state step shown = record {
  has = has_pins core pins m (with_state u m) s.has refl refl state shown;
  agrees = keeps_firsts before faults m _ e r s.agrees step;
  sound = keeps_sound before faults m _ e r s.sound step;
  above = keeps_floor before faults m _ e r s.above step;
  now = s.now;
  built = λ t. subst (AreDescribed held core.infos.items) (sym (ap (λ (v : State). v.blocks) state)) (s.built t);
  settled = λ t free. subst (λ (b : _). IsSettled held may_leave core.list b (tail_of core.segment) m.history) (sym (ap (λ (v : State). v.blocks) state)) (s.settled t free);
  sure = s.sure;
  fresh = s.fresh;
  logged = λ t free. logged_still held core.list before faults m (with_state u m) e r step refl (s.logged t free);
}

-- ---- a look

-- the rows outside of blocks
pub waiting_in : (core : CoreState) (m : Machine) (rows : List Row) → HasState core m → rows ≡ core.live.flushing ++ core.live.head ++ live_rows core.live.live
    → IsPermutation (flush_rows m.state.flush ++ m.state.head ++ live_rows m.state.live) rows
waiting_in core m rows has is =
    let all : rows ≡ flush_rows m.state.flush ++ m.state.head ++ live_rows m.state.live =
    is ∙ ap (λ (r : List Row). r ++ core.live.head ++ live_rows core.live.live) has.flushing
    ∙ ap (λ (r : List Row). flush_rows m.state.flush ++ r ++ live_rows core.live.live) (sym has.head)
    ∙ ap (λ (l : List LiveRow). flush_rows m.state.flush ++ m.state.head ++ live_rows l) (sym has.live) in
    subst (λ (r : List Row). IsPermutation r rows) all (IsPermutation-refl rows)

pub step_looked : (core : CoreState) (m : Machine) (before faults number as_of : ℕ) (files : List ℕ) (rows : List Row) → HasState core m → as_of ≡ count_of m.history → files ≡ block_files m.state.blocks
    → rows ≡ core.live.flushing ++ core.live.head ++ live_rows core.live.live
    → is_taken number core.pins.items ≡ false → ((other : ℕ) → is_taken other core.pins.items ≡ false → number ≤ other)
    → Step before faults m Look (Looked (record { pin = number; files = files; as_of = as_of; rows = rows })) (with_state (after_look number m.state) m)
step_looked core m before faults number as_of files rows has length listed is free least =
    Succeeds refl (
      number,
      rows,
      record { is_free = has.pins number ∙ free; least = λ other no_pin. least other (sym (has.pins other) ∙ no_pin) },
      waiting_in core m rows has is,
      ap (λ (f : List ℕ). Looked (record { pin = number; files = f; as_of = as_of; rows = rows })) listed ∙ ap (λ (n : ℕ). Looked (record { pin = number; files = block_files m.state.blocks; as_of = n; rows = rows })) length,
      refl,
    )

pub shown_more : (core : CoreState) (m : Machine) (number : ℕ) (files : List ℕ) (pins : List (Option (List ℕ))) → HasState core m → is_taken number core.pins.items ≡ false
    → files ≡ block_files m.state.blocks
    → ((other : ℕ) → is_taken other pins ≡ (is_taken other core.pins.items || (number == other)))
    → ((other : ℕ) → files_at other pins ≡ (if number == other then files else files_at other core.pins.items))
    → ShowsPins (after_look number m.state).pins pins
shown_more core m number files pins has free listed taken named = record {
  numbers = λ n. among-more n m.state.pins pin ∙ ap (λ (b : Bool). b || (number == n)) (has.pins n) ∙ sym (taken n);
  files = λ n. files-more n m.state.pins pin (has.pins number ∙ free)
      ∙ ap (λ (fs : List ℕ). if number == n then fs else block_files (pinned_blocks n m.state.pins)) (sym listed)
      ∙ ap (λ (fs : List ℕ). if number == n then files else fs) (has.pinned n) ∙ sym (named n);
}
  where
    pin : Pinned
    pin = record { number = number; blocks = m.state.blocks }

-- ---- its end

-- what is known of the compaction is all that it is
same_compaction : (known : Option OpenCompaction) (a b : Option Compaction) → ShowsCompaction known a → ShowsCompaction known b → b ≡ a
same_compaction None a b one other = other ∙ sym one
same_compaction (Some mine) a b one other = other ∙ sym one

-- a pin that is open in one machine that the core stands for is open in each
pub look_open : (core : CoreState) (m other : Machine) (pin : ℕ) → HasState core m → HasState core other → IsLookPin pin m.state → IsLookPin pin other.state
look_open core m other pin has its open_pin = record {
  is_open = its.pins pin ∙ sym (has.pins pin) ∙ open_pin.is_open;
  no_job = ap (λ (c : Option Compaction). is_among pin (compaction_pins c)) (same_compaction core.jobs.compaction m.state.compaction other.state.compaction has.compaction its.compaction) ∙ open_pin.no_job;
}

pub step_done : (m : Machine) (before faults pin : ℕ) → IsLookPin pin m.state → Step before faults m (Done pin) Fine (with_state (after_done pin m.state) m)
step_done m before faults pin open_pin = Succeeds refl (open_pin, refl, refl)

pub shown_less : (core : CoreState) (m : Machine) (number : ℕ) (pins : List (Option (List ℕ))) → HasState core m
    → ((other : ℕ) → is_taken other pins ≡ (is_taken other core.pins.items && not (number == other)))
    → ((other : ℕ) → files_at other pins ≡ (if number == other then [] else files_at other core.pins.items))
    → ShowsPins (after_done number m.state).pins pins
shown_less core m number pins has taken named = record {
  numbers = λ n. among-less n number m.state.pins ∙ ap (λ (b : Bool). b && not (number == n)) (has.pins n) ∙ sym (taken n);
  files = λ n. files-less n number m.state.pins ∙ ap (λ (fs : List ℕ). if number == n then [] else fs) (has.pinned n) ∙ sym (named n);
}

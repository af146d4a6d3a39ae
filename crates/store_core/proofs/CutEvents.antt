-- Cuts as events of a core.
use Rattle.std.proofs.Common.{◌≡◌, ℕ, Bool, true, not, List, ◌++◌, length, filter, None, Result, Ok, Err, IfOk, OnErr, refl, sym, ◌∙◌, ap, subst}
use Rattle.span_types.specs.declared.spans.Row.{Row}
use Rattle.span_types.specs.declared.errors.Memory.{Memory}
use Rattle.disk_model.specs.declared.disk.Device.{Ghosts}
use Rattle.live_traces.specs.Parts.{LiveParts}
use Rattle.store_model.specs.State.{LiveRow}
use Rattle.store_model.specs.Cut.{is_idle, AreMoved}
use Rattle.store_model.specs.After.{after_cut}
use Rattle.store_model.specs.Event.{Event, Reply}
use Rattle.store_model.specs.Event.Event.{Cut, CutAll}
use Rattle.store_model.specs.Event.Reply.{Count, Refused}
use Rattle.store_model.specs.Event.Refusal.{Fault, Memory as IsMemory}
use Rattle.store_model.specs.Step.{Machine, Step, IsCut, Happens, early, takes_memory, with_state}
use Rattle.store_model.specs.Step.Step.{Succeeds, Lacks}
use Rattle.store_state.specs.Calls.{MadeCalls}
use Rattle.store_state.specs.Meaning.{Rewritten}
use Rattle.store_state.specs.Written.{IsPageRead}
use Rattle.store_state.specs.Replies.{count_reply}
use Rattle.store_core.specs.declared.state.CoreState.{CoreState}
use Rattle.store_core.specs.declared.store.Core.{Core}
use Rattle.store_core.specs.Cores.{HasState}
use Rattle.store_core.specs.Events.{Did}
use Rattle.store_core.proofs.Quiet.{quiet}
use Rattle.store_core.proofs.PushEvents.{OnlyNow, refused_is}
use Rattle.store_core.proofs.States.{stands_lacking, stands_by_rows}

-- what a cut of the live rows that go makes of the parts in memory, and how many rows it moved
abbrev pub Moves : (List LiveRow → LiveRow → Bool) → List LiveRow → LiveParts → LiveParts → ℕ → Type 0
Moves goes live old new count =
    (moved : List Row) × AreMoved (goes live) live moved × (count ≡ length moved) × (new.head ≡ old.head ++ moved)
    × (new.live ≡ filter (λ entry. not (goes live entry)) live)

has_cut : (core : CoreState) (live : LiveParts) (m : Machine) (goes : LiveRow → Bool) (moved : List Row) → HasState core m
    → live.head ≡ core.live.head ++ moved → live.live ≡ filter (λ entry. not (goes entry)) m.state.live → live.flushing ≡ core.live.flushing
    → HasState (record core { live = live }) (with_state (after_cut goes moved m.state) m)
has_cut core live m goes moved has head stay flushing = record {
  count = has.count;
  few = has.few;
  live = sym stay;
  head = ap (λ (rows : List Row). rows ++ moved) has.head ∙ sym head;
  flushing = flushing ∙ has.flushing;
  flush = has.flush;
  compaction = has.compaction;
  blocks = has.blocks;
  infos = has.infos;
  listed = has.listed;
  commit = has.commit;
  rules = has.rules;
  segments = has.segments;
  last = has.last;
  floor = has.floor;
  loose = has.loose;
  next_file = has.next_file;
  begun = has.begun;
  jobs = has.jobs;
  used = has.used;
  pins = has.pins;
  pinned = has.pinned;
  read_only = has.read_only;
}

-- an event that is a cut
pub record IsACut (event : Event) (goes : List LiveRow → LiveRow → Bool) : Type 0 where
  pub free : (m : Machine) → early m event ≡ None
  pub takes : takes_memory event ≡ true
  pub happens : (m m' : Machine) (r : Reply) → IsCut (goes m.state.live) m r m' → Happens m event r m'
  pub still : (reply : Reply) (file : ℕ) (bytes : List ℕ) → Rewritten event reply file bytes bytes
  pub page : (reply : Reply) (shows : ℕ → List ℕ) → IsPageRead event reply shows
  pub calls : (result : Result ℕ Memory) (n : ℕ) → MadeCalls event (count_reply result) n n

cut_calls : (moment : ℕ) (result : Result ℕ Memory) (n : ℕ) → MadeCalls (Cut moment) (count_reply result) n n
cut_calls moment (Ok k) n = refl
cut_calls moment (Err e) n = refl

cut_all_calls : (result : Result ℕ Memory) (n : ℕ) → MadeCalls CutAll (count_reply result) n n
cut_all_calls (Ok k) n = refl
cut_all_calls (Err e) n = refl

pub is_cut : (moment : ℕ) → IsACut (Cut moment) (is_idle moment)
is_cut moment = record { free = λ m. refl; takes = refl; happens = λ m m' r cut. cut; still = λ reply file bytes. refl; page = λ reply shows. tt; calls = cut_calls moment }

pub is_cut_all : IsACut CutAll (λ live entry. true)
is_cut_all = record { free = λ m. refl; takes = refl; happens = λ m m' r cut. cut; still = λ reply file bytes. refl; page = λ reply shows. tt; calls = cut_all_calls }

pub did_cut : {D : Type 0} (g : Ghosts D) (only_now : OnlyNow g) (old : Core D) (live : LiveParts) (event : Event) (goes : List LiveRow → LiveRow → Bool) (result : Result ℕ Memory)
    → IsACut event goes → IfOk result (λ count. Moves goes old.state.live.live old.state.live live count)
    → OnErr result ((live.live ≡ old.state.live.live) × (live.head ≡ old.state.live.head)) → live.flushing ≡ old.state.live.flushing
    → Did g old event (count_reply result) (record old { state = record old.state { live = live } })
did_cut {D} g only_now old live event goes (Ok n) is moved same flushing =
    quiet g only_now old (record old.state { live = live }) refl event (Count n) (is.still (Count n)) (λ e. let bad : Count n ≡ Refused Fault = e in cc) (is.calls (Ok n)) refl refl (is.page (Count n)) (λ told m s. tt)
    (λ told m stands.
    let cut = subst (λ (l : List LiveRow). Moves goes l old.state.live live n) (sym stands.has.live) moved in
    let u = after_cut (goes m.state.live) cut.0 m.state in
    let step : Step (g.faults old.disk) (g.faults old.disk) m event (Count n) (with_state u m) = Succeeds (is.free m) (is.happens m (with_state u m) (Count n) (cut.0, cut.1, ap Count cut.2, refl)) in (
      with_state u m,
      stands_by_rows told (g.held old.disk) (g.may_leave old.disk) old.state live m u (g.faults old.disk) (g.faults old.disk) event (Count n) stands
          (has_cut old.state live m (goes m.state.live) cut.0 stands.has cut.3 cut.4 flushing) refl step,
      refl,
      step,
    ))
did_cut {D} g only_now old live event goes (Err e) is moved same flushing =
    quiet g only_now old (record old.state { live = live }) refl event (Refused IsMemory) (is.still (Refused IsMemory)) (λ e. let bad = refused_is IsMemory Fault e in cc) (is.calls (Err e)) refl refl (is.page (Refused IsMemory)) (λ told m s. tt)
    (λ told m stands. (
      m,
      stands_lacking told (g.held old.disk) (g.may_leave old.disk) old.state live m (record { live = same.0; head = same.1; flushing = flushing }) stands,
      refl,
      Lacks (is.free m) is.takes refl refl,
    ))

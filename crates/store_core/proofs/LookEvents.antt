-- Looks as events of a core.
use Rattle.std.proofs.Common.{◌≡◌, ℕ, ◌+◌, ◌-◌, ◌^◌, ◌≤◌, ◌==◌, min, IsTrue, false, not, List, [], ◌++◌, Option, length, if◌then◌else◌, refl, sym, ◌∙◌, ap, arith}
use Rattle.std.specs.Prelude.{◌||◌, ◌&&◌}
use Rattle.std.specs.Prelude.{Vec}
use Rattle.std.specs.declared.alloc.Global.{Global}
use Rattle.span_types.specs.declared.spans.Row.{Row}
use Rattle.disk_model.specs.declared.disk.Device.{Ghosts}
use Rattle.store_model.specs.State.{LiveRow, flush_rows, live_rows, held_of}
use Rattle.store_model.specs.History.{count_of}
use Rattle.store_model.specs.After.{after_look, after_done}
use Rattle.store_model.specs.Event.Event.{Look, Held, Done}
use Rattle.store_model.specs.Event.Reply.{Looked, Count, Fine, Refused}
use Rattle.store_model.specs.Event.Refusal.{Fault, Memory}
use Rattle.store_model.specs.Step.{Machine, Step, IsLookPin, with_state}
use Rattle.store_model.specs.Step.Step.{Succeeds, Lacks}
use Rattle.store_state.specs.Given.{info_files}
use Rattle.store_files.specs.Pins.{is_taken, files_at}
use Rattle.store_core.specs.declared.state.CoreState.{CoreState}
use Rattle.store_core.specs.declared.store.Core.{Core}
use Rattle.store_core.specs.Cores.{HasState, CoreShows}
use Rattle.store_core.specs.Events.{Did}
use Rattle.store_core.proofs.Quiet.{quiet}
use Rattle.store_core.proofs.PushEvents.{OnlyNow, refused_is}
use Rattle.store_core.proofs.Showing.{look_taken}
use Rattle.store_core.proofs.Looking.{stands_stepped, step_looked, shown_more, look_open, step_done, shown_less}

held_is : (core : CoreState) (m : Machine) → HasState core m → length core.live.flushing + length core.live.head + length core.live.live ≡ held_of m.state
held_is core m has =
    ap (λ (r : List Row). length r + length core.live.head + length core.live.live) has.flushing
    ∙ ap (λ (r : List Row). length (flush_rows m.state.flush) + length r + length core.live.live) (sym has.head)
    ∙ ap (λ (l : List LiveRow). length (flush_rows m.state.flush) + length m.state.head + length l) (sym has.live)

pub did_held : {D : Type 0} (g : Ghosts D) (only_now : OnlyNow g) (old : Core D) (held : ℕ)
    → held ≡ length old.state.live.flushing + length old.state.live.head + length old.state.live.live
    → Did g old Held (Count held) (record old { state = old.state })
did_held g only_now old held is =
    quiet g only_now old old.state refl Held (Count held) (λ file bytes. refl) (λ e. let bad : Count held ≡ Refused Fault = e in cc) (λ n. refl) refl refl (λ shows. tt) (λ told m s. tt)
    (λ told m stands. (m, stands, refl, Succeeds refl (ap Count (is ∙ held_is old.state m stands.has), refl)))

pub did_looked : {D : Type 0} (g : Ghosts D) (only_now : OnlyNow g) (old : Core D) (pins : Vec (Option (List ℕ)) Global) (number as_of : ℕ) (files : List ℕ) (rows : List Row)
    → ((m : Machine) → HasState old.state m → as_of ≡ count_of m.history) → as_of ≡ min (old.state.segment.first + old.state.segment.count) (2 ^ 64 - 1) → files ≡ info_files old.state.infos.items
    → rows ≡ old.state.live.flushing ++ old.state.live.head ++ live_rows old.state.live.live
    → is_taken number old.state.pins.items ≡ false → ((other : ℕ) → is_taken other old.state.pins.items ≡ false → number ≤ other)
    → ((other : ℕ) → is_taken other pins.items ≡ (is_taken other old.state.pins.items || (number == other)))
    → ((other : ℕ) → files_at other pins.items ≡ (if number == other then files else files_at other old.state.pins.items))
    → Did g old Look (Looked (record { pin = number; files = files; as_of = as_of; rows = rows })) (record old { state = record old.state { pins = pins } })
did_looked {D} g only_now old pins number as_of files rows length_is sum listed is free least taken named =
    quiet g only_now old (record old.state { pins = pins }) refl Look (Looked (record { pin = number; files = files; as_of = as_of; rows = rows })) (λ file bytes. refl) (λ e. let bad : Looked (record { pin = number; files = files; as_of = as_of; rows = rows }) ≡ Refused Fault = e in cc) (λ n. refl) refl refl (λ shows. tt)
    (λ told m s.
    let few = s.has.few in
    let whole : as_of ≡ old.state.segment.first + old.state.segment.count = omega (arith, sum, few) in
    look_taken (IsTrue (g.tells old.disk)) (g.held old.disk) (g.may_leave old.disk) (record old.state { pins = pins }) m number as_of files rows told s listed whole is)
    (λ told m stands.
    let step = step_looked old.state m (g.faults old.disk) (g.faults old.disk) number as_of files rows stands.has (length_is m stands.has) (listed ∙ stands.has.infos) is free least in (
      with_state (after_look number m.state) m,
      stands_stepped told (g.held old.disk) (g.may_leave old.disk) old.state pins m (after_look number m.state) (g.faults old.disk) (g.faults old.disk) Look _ stands refl step
          (shown_more old.state m number files pins.items stands.has free (listed ∙ stands.has.infos) taken named),
      refl,
      step,
    ))

pub did_look_lacking : {D : Type 0} (g : Ghosts D) (only_now : OnlyNow g) (old : Core D) (pins : Vec (Option (List ℕ)) Global)
    → ((other : ℕ) → is_taken other pins.items ≡ is_taken other old.state.pins.items)
    → ((other : ℕ) → files_at other pins.items ≡ files_at other old.state.pins.items)
    → Did g old Look (Refused Memory) (record old { state = record old.state { pins = pins } })
did_look_lacking {D} g only_now old pins same same_files =
    quiet g only_now old (record old.state { pins = pins }) refl Look (Refused Memory) (λ file bytes. refl) (λ e. let bad = refused_is Memory Fault e in cc) (λ n. refl) refl refl (λ shows. tt) (λ told m s. tt)
    (λ told m stands.
    let step : Step (g.faults old.disk) (g.faults old.disk) m Look (Refused Memory) (with_state m.state m) = Lacks refl refl refl refl in (
      with_state m.state m,
      stands_stepped told (g.held old.disk) (g.may_leave old.disk) old.state pins m m.state (g.faults old.disk) (g.faults old.disk) Look (Refused Memory) stands refl step
          (record { numbers = λ n. stands.has.pins n ∙ sym (same n); files = λ n. stands.has.pinned n ∙ sym (same_files n) }),
      refl,
      step,
    ))

pub did_done : {D : Type 0} (g : Ghosts D) (only_now : OnlyNow g) (old : Core D) (pins : Vec (Option (List ℕ)) Global) (number : ℕ)
    → ((m : Machine) × CoreShows g old m × IsLookPin number m.state)
    → ((other : ℕ) → is_taken other pins.items ≡ (is_taken other old.state.pins.items && not (number == other)))
    → ((other : ℕ) → files_at other pins.items ≡ (if number == other then [] else files_at other old.state.pins.items))
    → Did g old (Done number) Fine (record old { state = record old.state { pins = pins } })
did_done {D} g only_now old pins number is_open taken named =
    quiet g only_now old (record old.state { pins = pins }) refl (Done number) Fine (λ file bytes. refl) (λ e. let bad : Fine ≡ Refused Fault = e in cc) (λ n. refl) refl refl (λ shows. tt) (λ told m s. tt)
    (λ told m stands.
    let step = step_done m (g.faults old.disk) (g.faults old.disk) number (look_open old.state is_open.0 m number is_open.1.state.has stands.has is_open.2) in (
      with_state (after_done number m.state) m,
      stands_stepped told (g.held old.disk) (g.may_leave old.disk) old.state pins m (after_done number m.state) (g.faults old.disk) (g.faults old.disk) (Done number) Fine stands refl step
          (shown_less old.state m number pins.items stands.has taken named),
      refl,
      step,
    ))

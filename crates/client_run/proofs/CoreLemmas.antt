-- Calls of a core, one after another.
use Rattle.std.proofs.Common.{◌≡◌, ◌≢◌, ◌∙◌, ℕ, List, [], ◌∷◌, refl, sym, ap, subst}
use Rattle.disk_model.specs.declared.disk.Device.{Ghosts}
use Rattle.disk_model.specs.Counts.{Raised}
use Rattle.store_model.specs.Event.{Event, Reply}
use Rattle.store_model.specs.Event.Reply.{Compacting, Count, Fine, Flushing, Looked, Nothing, Page, Refused}
use Rattle.store_model.specs.Event.Refusal.{Busy, Fault, FilesSpent, LiveFull, Memory, ReadOnly, StoreFull}
use Rattle.store_model.specs.Step.{Machine, Step}
use Rattle.store_core.specs.Cores.{CoreStandsFor, CoreShows, unsure_of}
use Rattle.store_core.specs.Events.{Did}
use Rattle.store_core.specs.Past.{StandsSince}
use Rattle.store_core.proofs.Past.{stands_since}
use Rattle.store_core.specs.Port.{port_of}
use Rattle.store_core.specs.declared.store.Core.{Core}
use Rattle.store_state.specs.Made.{AreMade, Call}
use Rattle.client_run.specs.CoreRuns.{HasStepped, IsCounted, is_fault, unsure_after_calls}

-- Each reply tells of a fault or of none.
pub counted_by : (r : Reply) (before now : ℕ) → (r ≢ Refused Fault → now ≡ before) → (r ≡ Refused Fault → Raised before now) → IsCounted (is_fault r) before now
counted_by (Count n) before now quiet rose = quiet (λ e. let bad : ⊥ = cc in bad)
counted_by Fine before now quiet rose = quiet (λ e. let bad : ⊥ = cc in bad)
counted_by Nothing before now quiet rose = quiet (λ e. let bad : ⊥ = cc in bad)
counted_by (Flushing job) before now quiet rose = quiet (λ e. let bad : ⊥ = cc in bad)
counted_by (Compacting job) before now quiet rose = quiet (λ e. let bad : ⊥ = cc in bad)
counted_by (Looked look) before now quiet rose = quiet (λ e. let bad : ⊥ = cc in bad)
counted_by (Page bytes) before now quiet rose = quiet (λ e. let bad : ⊥ = cc in bad)
counted_by (Refused (ReadOnly n)) before now quiet rose = quiet (λ e. let bad : ⊥ = cc in bad)
counted_by (Refused (StoreFull n)) before now quiet rose = quiet (λ e. let bad : ⊥ = cc in bad)
counted_by (Refused (LiveFull n)) before now quiet rose = quiet (λ e. let bad : ⊥ = cc in bad)
counted_by (Refused (Busy n)) before now quiet rose = quiet (λ e. let bad : ⊥ = cc in bad)
counted_by (Refused (FilesSpent n)) before now quiet rose = quiet (λ e. let bad : ⊥ = cc in bad)
counted_by (Refused Memory) before now quiet rose = quiet (λ e. let bad : ⊥ = cc in bad)
counted_by (Refused Fault) before now quiet rose = rose refl

-- each event keeps that a core is so with a machine, by a step
abbrev pub KeepsSteps : {D : Type 0} → Ghosts D → (Core D → Machine → Type 0) → Type 0
KeepsSteps {D} g is_with =
    (old new : Core D) (event : Event) (reply : Reply) → Did g old event reply new → (m : Machine) → is_with old m
    → (m' : Machine) × is_with new m' × Step (g.faults old.disk) (g.faults new.disk) m event reply m'

pub stepped : {D : Type 0} (g : Ghosts D) (is_with : Core D → Machine → Type 0) → KeepsSteps g is_with → (old new : Core D) (calls : List Call) → AreMade (port_of g) old calls new
    → (m : Machine) → is_with old m → HasStepped g is_with old calls new m
stepped {D} g is_with keeps old new [] made m stands = record {
  machine = m;
  stands = subst (λ (core : Core D). is_with core m) (sym made) stands;
  steps = (ap (λ (core : Core D). g.faults core.disk) made, refl);
}
stepped g is_with keeps old new (c ∷ cs) made m stands =
    let one = keeps old made.0 c.event c.reply made.1.did m stands in
    let counts = made.1.did.counts in
    let rest = stepped g is_with keeps made.0 new cs made.2 one.0 one.1 in record {
      machine = rest.machine;
      stands = rest.stands;
      steps = (g.faults made.0.disk, one.0, counted_by c.reply (g.faults old.disk) (g.faults made.0.disk) counts.quiet counts.fault, one.2, rest.steps);
    }

pub stands_stepped : {D : Type 0} (g : Ghosts D) (old new : Core D) (calls : List Call) → AreMade (port_of g) old calls new → (m : Machine) → CoreStandsFor g old m
    → HasStepped g (CoreStandsFor g) old calls new m
stands_stepped g = stepped g (CoreStandsFor g) (λ old new event reply did m stands. let s = did.stepped m stands in (s.machine, s.stands, s.step))

pub shows_stepped : {D : Type 0} (g : Ghosts D) (old new : Core D) (calls : List Call) → AreMade (port_of g) old calls new → (m : Machine) → CoreShows g old m
    → HasStepped g (CoreShows g) old calls new m
shows_stepped g = stepped g (CoreShows g) (λ old new event reply did m shows. did.shown m shows)

pub since_stepped : {D : Type 0} (g : Ghosts D) (old new : Core D) (calls : List Call) → AreMade (port_of g) old calls new → (m : Machine) (start : D) (least : ℕ)
    → StandsSince g start least old m → HasStepped g (StandsSince g start least) old calls new m
since_stepped g old new calls made m start least =
    stepped g (StandsSince g start least) (λ old new event reply did m since.
    let s = did.stepped m since.stands in (s.machine, stands_since g old new event reply m start least did since, s.step))
    old new calls made m

pub unsure_stepped : {D : Type 0} (g : Ghosts D) (old new : Core D) (calls : List Call) → AreMade (port_of g) old calls new → (m : Machine) → CoreStandsFor g old m
    → unsure_of new.state ≡ unsure_after_calls calls (unsure_of old.state)
unsure_stepped {D} g old new [] made m stands = ap (λ (core : Core D). unsure_of core.state) made
unsure_stepped g old new (c ∷ cs) made m stands =
    let one = made.1.did.stepped m stands in
    unsure_stepped g made.0 new cs made.2 one.machine one.stands ∙ ap (unsure_after_calls cs) one.unsure

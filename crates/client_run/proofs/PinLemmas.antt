-- Looks of a core don't share pins.
use Rattle.std.proofs.Common.{◌≡◌, ℕ, zero, suc, Bool, true, false, List, [], ◌∷◌, ◌++◌, Some, None, map, refl, subst, arith, if◌then◌else◌}
use Rattle.std.proofs.lemmas.Option.{same_Some}
use Rattle.std.specs.Prelude.{⊤}
use Rattle.disk_model.specs.declared.disk.Device.{Ghosts}
use Rattle.store_model.specs.Event.{Event, Reply}
use Rattle.store_model.specs.Event.Reply.{Count, Fine, Nothing, Flushing, Compacting, Looked, Page, Refused}
use Rattle.store_model.specs.Fresh.{AreApart}
use Rattle.store_model.specs.Holds.{Hold, OpenIn, ends}
use Rattle.store_model.specs.Holds.Hold.{OpenLook}
use Rattle.store_model.specs.Laws.{Agrees}
use Rattle.store_model.specs.Sound.{StateIsSound}
use Rattle.store_model.specs.Step.{Machine, Step}
use Rattle.store_model.proofs.GivesFresh.{opens_apart}
use Rattle.store_model.proofs.KeepsHolds as holds
use Rattle.store_model.proofs.TellsHistory.{step_opens}
use Rattle.store_core.specs.Cores.{CoreShows}
use Rattle.store_core.specs.Port.{port_of}
use Rattle.store_core.specs.declared.store.Core.{Core}
use Rattle.store_state.specs.Made.{AreMade, Call, call}
use Rattle.client_run.specs.Calls.{Looks, after_call, after_calls, look_at, taken, unless_ended}
use Rattle.client_run.specs.CoreRuns.{HaveOwnPins}

-- all later looks are apart from this one
abbrev ApartFrom : Hold → Looks → Type 0
ApartFrom one [] = ⊤
ApartFrom one (None ∷ looks) = ApartFrom one looks
ApartFrom one (Some other ∷ looks) = AreApart other one × ApartFrom one looks

-- the looks are open in the machine, and each is apart from those before it
abbrev AreLooks : Machine → Looks → Type 0
AreLooks m [] = ⊤
AreLooks m (None ∷ looks) = AreLooks m looks
AreLooks m (Some one ∷ looks) = OpenIn m one × ApartFrom one looks × AreLooks m looks

apart_kept : (one : Hold) (c : Call) (looks : Looks) → ApartFrom one looks → ApartFrom one (map (unless_ended c) looks)
apart_kept one c [] h = h
apart_kept one c (None ∷ looks) h = apart_kept one c looks h
apart_kept one c (Some x ∷ looks) h = by_test (ends c.event c.reply x) (apart_kept one c looks h.1)
  where
    by_test : (t : Bool) → ApartFrom one (map (unless_ended c) looks) → ApartFrom one ((if t then None else Some x) ∷ map (unless_ended c) looks)
    by_test true ih = ih
    by_test false ih = (h.0, ih)

apart_append : (one : Hold) (front back : Looks) → ApartFrom one front → ApartFrom one back → ApartFrom one (front ++ back)
apart_append one [] back h k = k
apart_append one (None ∷ looks) back h k = apart_append one looks back h k
apart_append one (Some x ∷ looks) back h k = (h.0, apart_append one looks back h.1 k)

module _ (before faults : ℕ) (m m' : Machine) (event : Event) (agrees : Agrees m) (sound : StateIsSound m.state) where
  new_apart : (reply : Reply) (one : Hold) → Step before faults m event reply m' → OpenIn m one → ApartFrom one (taken reply)
  new_apart (Looked look) one step is =
      (opens_apart before faults m m' event (Looked look) (OpenLook look) one sound step (0, omega arith, refl) is, tt)
  new_apart (Count n) one step is = tt
  new_apart Fine one step is = tt
  new_apart Nothing one step is = tt
  new_apart (Flushing job) one step is = tt
  new_apart (Compacting job) one step is = tt
  new_apart (Page bytes) one step is = tt
  new_apart (Refused why) one step is = tt

  new_looks : (reply : Reply) → Step before faults m event reply m' → AreLooks m' (taken reply)
  new_looks (Looked look) step =
      (step_opens before faults m m' event (Looked look) (OpenLook look) agrees sound step (0, omega arith, refl), tt, tt)
  new_looks (Count n) step = tt
  new_looks Fine step = tt
  new_looks Nothing step = tt
  new_looks (Flushing job) step = tt
  new_looks (Compacting job) step = tt
  new_looks (Page bytes) step = tt
  new_looks (Refused why) step = tt

  looks_after : (reply : Reply) (looks : Looks) → Step before faults m event reply m' → AreLooks m looks → AreLooks m' (map (unless_ended (call event reply)) looks ++ taken reply)
  looks_after reply [] step h = new_looks reply step
  looks_after reply (None ∷ looks) step h = looks_after reply looks step h
  looks_after reply (Some x ∷ looks) step h = by_test (ends event reply x) refl (looks_after reply looks step h.2)
    where
      by_test : (t : Bool) → ends event reply x ≡ t → AreLooks m' (map (unless_ended (call event reply)) looks ++ taken reply)
          → AreLooks m' ((if t then None else Some x) ∷ (map (unless_ended (call event reply)) looks ++ taken reply))
      by_test true e ih = ih
      by_test false e ih = (
        holds.step_keeps before faults m m' event reply x h.0 e step,
        apart_append x (map (unless_ended (call event reply)) looks) (taken reply) (apart_kept x (call event reply) looks h.1) (new_apart reply x step h.0),
        ih,
      )

looks_kept : {D : Type 0} (g : Ghosts D) (old new : Core D) (calls : List Call) (looks : Looks) → AreMade (port_of g) old calls new → (m : Machine) → CoreShows g old m
    → AreLooks m looks → (m' : Machine) × AreLooks m' (after_calls calls looks)
looks_kept g old new [] looks made m stands h = (m, h)
looks_kept g old new (c ∷ cs) looks made m stands h =
    let one = made.1.did.shown m stands in
    looks_kept g made.0 new cs (after_call c looks) made.2 one.0 one.1
    (looks_after (g.faults old.disk) (g.faults made.0.disk) m one.0 c.event stands.state.agrees stands.state.sound c.reply looks one.2 h)

apart_at : (looks : Looks) (later : ℕ) (one other : Hold) → ApartFrom one looks → look_at later looks ≡ Some other → AreApart other one
apart_at [] later one other h e = let bad : ⊥ = cc in absurd bad
apart_at (None ∷ looks) zero one other h e = let bad : ⊥ = cc in absurd bad
apart_at (Some x ∷ looks) zero one other h e = subst (λ (y : Hold). AreApart y one) (same_Some x other e) h.0
apart_at (None ∷ looks) (suc n) one other h e = apart_at looks n one other h e
apart_at (Some x ∷ looks) (suc n) one other h e = apart_at looks n one other h.1 e

pins_apart : (m : Machine) (looks : Looks) → AreLooks m looks → HaveOwnPins looks
pins_apart m [] h first later one other less e f = let bad : ⊥ = cc in absurd bad
pins_apart m (x ∷ looks) h first zero one other less e f = absurd (omega (arith, less))
pins_apart m (None ∷ looks) h zero (suc later) one other less e f = let bad : ⊥ = cc in absurd bad
pins_apart m (Some x ∷ looks) h zero (suc later) one other less e f =
    subst (λ (y : Hold). AreApart other y) (same_Some x one e) (apart_at looks later x other h.1 f)
pins_apart m (None ∷ looks) h (suc first) (suc later) one other less e f = pins_apart m looks h first later one other (omega (arith, less)) e f
pins_apart m (Some x ∷ looks) h (suc first) (suc later) one other less e f = pins_apart m looks h.2 first later one other (omega (arith, less)) e f

pub own_pins : {D : Type 0} (g : Ghosts D) (old new : Core D) (calls : List Call) → AreMade (port_of g) old calls new → (m : Machine) → CoreShows g old m
    → HaveOwnPins (after_calls calls [])
own_pins g old new calls made m stands = let last = looks_kept g old new calls [] made m stands tt in pins_apart last.0 (after_calls calls []) last.1

-- What the calls of a query make of the store's machine: nothing.
use Rattle.std.proofs.Common.{◌≡◌, ℕ, ◌==◌, true, false, not, List, [], ◌∷◌, ◌++◌, refl, ◌∙◌, ap, if◌then◌else◌}
use Rattle.std.specs.Prelude.{◌||◌}
use Rattle.store_model.specs.Event.{LookParts}
use Rattle.store_model.specs.State.{Block, Pinned, State, IsFreeNumber, is_among, pin_numbers, without_pin}
use Rattle.store_model.specs.After.{after_done, after_look}
use Rattle.store_model.specs.Event.Event.{Done, Look}
use Rattle.store_model.specs.Event.Reply.{Fine, Looked, Refused}
use Rattle.store_model.specs.Event.Refusal.{Memory}
use Rattle.store_model.specs.Step.{IsLook, Machine, Step, with_state}
use Rattle.store_model.specs.Step.Step.{Sure, Succeeds, Lacks, Unread, Breaks, Halts}
use Rattle.store_model.proofs.Numbers.{equal_itself}

-- a pin under a free number is gone once it is given back, and no other is
without_added : (n : ℕ) (blocks : List Block) (pins : List Pinned) → is_among n (pin_numbers pins) ≡ false
    → without_pin n (pins ++ record { number = n; blocks = blocks } ∷ []) ≡ pins
without_added n blocks [] free = rw (equal_itself n) refl
without_added n blocks (p ∷ ps) free =
    elim (p.number == n) as (λ t. (t || is_among n (pin_numbers ps)) ≡ false
    → (if not t then p ∷ without_pin n (ps ++ record { number = n; blocks = blocks } ∷ []) else without_pin n (ps ++ record { number = n; blocks = blocks } ∷ [])) ≡ p ∷ ps) [
      | true ↦ λ h. cc
      | false ↦ λ h. ap (λ (qs : List Pinned). p ∷ qs) (without_added n blocks ps h)
    ] free

-- A look that is given back leaves the state as it was.
pub after_both : (pin : ℕ) (u : State) → IsFreeNumber pin u.pins → after_done pin (after_look pin u) ≡ u
after_both pin u free = ap (λ (pins : List Pinned). record u { pins = pins }) (without_added pin u.blocks u.pins free.is_free)

given_back : (pin : ℕ) (m : Machine) → IsFreeNumber pin m.state.pins
    → with_state (after_done pin (after_look pin m.state)) (with_state (after_look pin m.state) m) ≡ m
given_back pin m free = ap (λ (u : State). record { state = u; history = m.history; read_only = m.read_only }) (after_both pin m.state free)

-- a look that there was no memory for
pub look_refused : (before faults : ℕ) (m m' : Machine) → Step before faults m Look (Refused Memory) m' → m' ≡ m
look_refused before faults m m' (Sure told same) = same
look_refused before faults m m' (Succeeds none done) = let bad : ⊥ = (let e = done.4 in cc) in absurd bad
look_refused before faults m m' (Lacks none takes reply same) = same
look_refused before faults m m' (Unread reads reply rose same) = same
look_refused before faults m m' (Breaks none writes reply rose same) = let bad : ⊥ = cc in absurd bad
look_refused before faults m m' (Halts none reclaims writes reply rose emptied fewer same) = let bad : ⊥ = cc in absurd bad

pub look_taken : (before faults : ℕ) (m m' : Machine) (look : LookParts) →
    Step before faults m Look (Looked look) m' → IsLook m (Looked look) m'
look_taken before faults m m' look (Sure told same) = let bad : ⊥ = cc in absurd bad
look_taken before faults m m' look (Succeeds none done) = done
look_taken before faults m m' look (Lacks none takes reply same) = let bad : ⊥ = cc in absurd bad
look_taken before faults m m' look (Unread reads reply rose same) = let bad : ⊥ = cc in absurd bad
look_taken before faults m m' look (Breaks none writes reply rose same) = let bad : ⊥ = cc in absurd bad
look_taken before faults m m' look (Halts none reclaims writes reply rose emptied fewer same) = let bad : ⊥ = cc in absurd bad

pub look_ended : (before faults : ℕ) (m m' : Machine) (pin : ℕ) → Step before faults m (Done pin) Fine m' → m' ≡ with_state (after_done pin m.state) m
look_ended before faults m m' pin (Sure told same) = let bad : ⊥ = cc in absurd bad
look_ended before faults m m' pin (Succeeds none done) = done.2
look_ended before faults m m' pin (Lacks none takes reply same) = let bad : ⊥ = cc in absurd bad
look_ended before faults m m' pin (Unread reads reply rose same) = let bad : ⊥ = cc in absurd bad
look_ended before faults m m' pin (Breaks none writes reply rose same) = let bad : ⊥ = cc in absurd bad
look_ended before faults m m' pin (Halts none reclaims writes reply rose emptied fewer same) = let bad : ⊥ = cc in absurd bad

-- A look that was taken and given back leaves the machine as it was.
pub still_after : (m between after : Machine) (pin its_pin : ℕ) → IsFreeNumber its_pin m.state.pins → pin ≡ its_pin
    → between ≡ with_state (after_look its_pin m.state) m → after ≡ with_state (after_done pin between.state) between → after ≡ m
still_after m between after pin its_pin free same taken ended =
    ended
    ∙ ap (λ (p : ℕ). with_state (after_done p between.state) between) same
    ∙ ap (λ (n : Machine). with_state (after_done its_pin n.state) n) taken
    ∙ given_back its_pin m free

-- What a call leaves open, for any port.
use Rattle.std.proofs.Common.{◌≡◌, ℕ, ◌<◌, zero, suc, List, [], ◌∷◌, Bool, true, false, not, ◌∙◌, ap, arith, length, filter, slice_index_or, if◌then◌else◌}
use Rattle.std.specs.List.{Contains}
use Rattle.std.proofs.lemmas.List.Elements.{Contains-append_left, Contains-append_right}
use Rattle.store_model.specs.Event.{Event, Reply}
use Rattle.store_model.specs.Holds.{Hold, ends, opened, holds_after}
use Rattle.store_state.specs.Meaning.{Meaning, Called, IsOpen}

still_there : {X : Type 0} (p : X → Bool) (xs : List X) (x : X) (k : ℕ) → k < length xs → slice_index_or xs k x ≡ x → p x ≡ true → Contains (filter p xs) x
still_there p [] x k l e h = absurd (omega arith)
still_there p (y ∷ ys) x zero l e h = rw (ap p e ∙ h) (zero, omega arith, e)
still_there p (y ∷ ys) x (suc k) l e h =
    let inner = still_there p ys x k (omega arith) e h in
    elim (p y) as (λ t. Contains (if t then y ∷ filter p ys else filter p ys) x) [
      | true ↦ (suc inner.0, omega (arith, inner.1), inner.2)
      | false ↦ inner
    ]

-- What is open and isn't ended by a call stays open.
pub stays_open : {P : Type 0} (meaning : Meaning P) (old new : P) (event : Event) (reply : Reply) (hold : Hold) → Called meaning old event reply new →
    IsOpen meaning old hold → ends event reply hold ≡ false → IsOpen meaning new hold
stays_open meaning old new event reply hold called (held, known, there) n = (
  holds_after event reply held,
  called.holds held known,
  Contains-append_left (filter (λ x. not (ends event reply x)) held) (opened reply) hold
      (still_there (λ x. not (ends event reply x)) held hold there.0 there.1 there.2 (ap not n)),
)

-- A call opens what it gives.
pub opens_new : {P : Type 0} (meaning : Meaning P) (old new : P) (event : Event) (reply : Reply) (hold : Hold) → Called meaning old event reply new →
    ((held : List Hold) × meaning.holds old held) → Contains (opened reply) hold → IsOpen meaning new hold
opens_new meaning old new event reply hold called (held, known) there =
    (holds_after event reply held, called.holds held known, Contains-append_right (filter (λ x. not (ends event reply x)) held) (opened reply) hold there)

-- Calls of a port, one after another.
use Rattle.std.specs.Prelude.{◌≡◌, List, [], ◌∷◌}
use Rattle.store_model.specs.Event.{Event, Reply}
use Rattle.store_state.specs.Meaning.{Meaning, Called}

-- a call and its reply
pub record Call : Type 0 where
  pub event : Event
  pub reply : Reply

abbrev pub call : Event → Reply → Call
call event reply = record { event = event; reply = reply }

-- These calls, and no others, were made on a port, one after another.
abbrev pub AreMade : {P : Type 0} → Meaning P → P → List Call → P → Type 0
AreMade meaning old [] new = new ≡ old
AreMade {P} meaning old (c ∷ calls) new =
    (between : P) × Called meaning old c.event c.reply between × AreMade meaning between calls new

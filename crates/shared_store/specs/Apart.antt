-- Looks and jobs of different seats, and a port that nobody else uses.
use Rattle.std.specs.Prelude.{◌≡◌, ℕ, List, [], ◌∷◌, true, false}
use Rattle.std.specs.List.{Contains}
use Rattle.store_model.specs.Event.{Event, Reply}
use Rattle.store_model.specs.Event.Event.{WritePiece}
use Rattle.store_model.specs.Event.Reply.{Refused}
use Rattle.store_model.specs.Event.Refusal.{Fault}
use Rattle.store_model.specs.Fresh.{pin_of, job_of}
use Rattle.store_model.specs.Holds.{Hold, ends, opened, holds_after, files_of}
use Rattle.store_model.specs.Holds.Hold.{OpenLook, OpenFlush, OpenCompact}
use Rattle.store_model.specs.State.{is_among}
use Rattle.store_model.specs.Told.{history_after, TellsLength}
use Rattle.store_state.specs.Meaning.{View, Meaning, Called}
use Rattle.port_history.specs.Entries.{Entry}

-- the file that a job writes
abbrev pub written_by : Hold → List ℕ
written_by (OpenLook look) = []
written_by (OpenFlush job) = job.file ∷ []
written_by (OpenCompact job) = job.file ∷ []

-- They share neither a pin's number nor a job's, and what the one writes is no file of the other.
pub record AreStrangers (one other : Hold) : Type 0 where
  pub pins : (n : ℕ) → is_among n (pin_of one) ≡ true → is_among n (pin_of other) ≡ false
  pub jobs : (n : ℕ) → is_among n (job_of one) ≡ true → is_among n (job_of other) ≡ false
  pub writes : (file : ℕ) → is_among file (written_by one) ≡ true → is_among file (files_of other) ≡ false
  pub written : (file : ℕ) → is_among file (written_by other) ≡ true → is_among file (files_of one) ≡ false

-- each two of them are
abbrev pub AllStrangers : List Hold → Type 0
AllStrangers [] = Unit {0}
AllStrangers (one ∷ others) = ((other : Hold) → Contains others other → AreStrangers one other) × AllStrangers others

-- A call that ends none of these looks and jobs, and writes no file of them.
pub record Leaves (holds : List Hold) (event : Event) (reply : Reply) : Type 0 where
  pub ends_none : (hold : Hold) → Contains holds hold → ends event reply hold ≡ false
  pub writes_none : (number file : ℕ) (bytes : List ℕ) → event ≡ WritePiece number file bytes
      → (hold : Hold) → Contains holds hold → is_among file (files_of hold) ≡ false

-- all these calls do so
abbrev pub AllLeave : List Hold → List Entry → Type 0
AllLeave holds entries = (e : Entry) → Contains entries e → Leaves holds e.event e.reply

-- Nobody but its caller uses the port: each call changes the history just as its own reply says, what it opens is apart from all that
-- was open, and once a piece wasn't written for a fault nothing is written any more.
pub record IsUnshared {P : Type 0} (meaning : Meaning P) : Type 0 where
  pub history : (old new : P) (event : Event) (reply : Reply) → Called meaning old event reply new → (v : View) → meaning.knows old v
      → (w : View) × meaning.knows new w × (w.history ≡ history_after event reply v.history) × (w.holds ≡ holds_after event reply v.holds)
      × TellsLength event reply v.history
  pub apart : (old new : P) (event : Event) (reply : Reply) → Called meaning old event reply new → (held : List Hold) → meaning.holds old held
      → (one other : Hold) → Contains (opened reply) one → Contains held other → AreStrangers one other
  pub broken : (old new : P) (number file : ℕ) (bytes : List ℕ) → Called meaning old (WritePiece number file bytes) (Refused Fault) new
      → (held : List Hold) → meaning.holds old held → meaning.writes new → ⊥

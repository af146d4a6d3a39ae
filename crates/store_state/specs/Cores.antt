-- A port that stands for one machine, as a core does.
use Rattle.std.specs.Prelude.{◌≡◌, ◌≢◌, ℕ, ◌+◌, ◌≤◌, List, [], Bool, true, false, IsTrue}
use Rattle.std.specs.List.{Contains}
use Rattle.span_types.specs.Faults.{Rose}
use Rattle.store_model.specs.State.{is_among}
use Rattle.store_model.specs.Event.{Event, Reply}
use Rattle.store_model.specs.Event.Reply.{Refused}
use Rattle.store_model.specs.Event.Refusal.{Fault}
use Rattle.store_model.specs.Step.{Machine, Step}
use Rattle.store_model.specs.Laws.{Agrees}
use Rattle.store_model.specs.Sound.{StateIsSound}
use Rattle.store_model.specs.Holds.{Hold, OpenIn, ends, files_of, own_files}
use Rattle.block_info.specs.InfoParts.{InfoParts}
use Rattle.store_state.specs.Calls.{MadeCalls}
use Rattle.store_state.specs.Kept.{Kept}
use Rattle.store_state.specs.Meaning.{View, Meaning, Rewritten, reads_of}
use Rattle.store_state.specs.Shown.{IsLookTaken}
use Rattle.store_state.specs.Written.{IsPageRead}

-- Which machines a core stands for, which ones its memory shows, whatever its disk holds, and what it shows besides.
pub record CoreMeaning (P : Type 0) : Type 1 where
  pub stands_for : P → Machine → Type 0
  pub in_memory : P → Machine → Type 0
  pub tells : P → Bool
  pub shows : P → ℕ → List ℕ
  pub lists : P → List InfoParts → Type 0
  pub keeps : P → Kept → Type 0
  pub writes : P → Type 0
  pub faults : P → ℕ
  pub reads : P → ℕ
  pub calls : P → ℕ

-- A core knows the history of a sound machine that it stands for, and holds what is open in it.
pub record CoreKnows {P : Type 0} (core : CoreMeaning P) (port : P) (v : View) : Type 0 where
  pub machine : Machine
  pub stands : core.stands_for port machine
  pub agrees : Agrees machine
  pub sound : StateIsSound machine.state
  pub history : machine.history ≡ v.history
  pub open_holds : (hold : Hold) → Contains v.holds hold → OpenIn machine hold

-- All these are open in one sound machine that the core's memory shows.
pub record CoreHolds {P : Type 0} (core : CoreMeaning P) (port : P) (held : List Hold) : Type 0 where
  pub machine : Machine
  pub shown : core.in_memory port machine
  pub agrees : Agrees machine
  pub sound : StateIsSound machine.state
  pub open_holds : (hold : Hold) → Contains held hold → OpenIn machine hold

-- The event is a step of each machine that the core stands for.
abbrev pub CoreDid : {P : Type 0} → CoreMeaning P → P → Event → Reply → P → Type 0
CoreDid core old event reply new = (m : Machine) → core.stands_for old m →
    (m' : Machine) × core.stands_for new m' × Step (core.faults old) (core.faults new) m event reply m'

-- It is a step of each machine that the core's memory shows.
abbrev pub CoreShown : {P : Type 0} → CoreMeaning P → P → Event → Reply → P → Type 0
CoreShown core old event reply new = (m : Machine) → core.in_memory old m →
    (m' : Machine) × core.in_memory new m' × Step (core.faults old) (core.faults new) m event reply m'

abbrev pub meaning_of : {P : Type 0} → CoreMeaning P → Meaning P
meaning_of {P} core = record {
  knows = CoreKnows core;
  holds = CoreHolds core;
  tells = core.tells;
  shows = core.shows;
  lists = core.lists;
  keeps = core.keeps;
  writes = core.writes;
  faults = core.faults;
  reads = core.reads;
  calls = core.calls;
  did = CoreDid core;
}

-- What a core shows of one event.
pub record CoreSteps {P : Type 0} (core : CoreMeaning P) (old : P) (event : Event) (reply : Reply) (new : P) : Type 0 where
  pub did : CoreDid core old event reply new
  pub shown : CoreShown core old event reply new
  pub telling : core.tells new ≡ core.tells old
  pub ended : (m : Machine) → core.in_memory old m → core.writes new → core.writes old
  pub bytes : IsTrue (core.tells old) → (m : Machine) → core.in_memory old m → (hold : Hold) → OpenIn m hold →
      ends event reply hold ≡ false → (file : ℕ) → is_among file (files_of hold) ≡ true
      → Rewritten event reply file (core.shows old file) (core.shows new file)
  pub page : IsTrue (core.tells old) → IsPageRead event reply (core.shows old)
  pub look : IsTrue (core.tells new) → (m : Machine) → core.stands_for new m →
      IsLookTaken reply (core.shows new) m.history
  pub empty : IsTrue (core.tells old) → (file : ℕ) → is_among file (own_files reply) ≡ true → core.shows new file ≡ []
  pub later : core.faults old ≤ core.faults new
  pub quiet : reply ≢ Refused Fault → core.faults new ≡ core.faults old
  pub cause : reply ≡ Refused Fault → Rose (core.faults old) (core.faults new)
  pub calls : MadeCalls event reply (core.calls old) (core.calls new)
  pub reads_rise : core.reads old ≤ core.reads new
  pub reads_bound : core.reads new ≤ core.reads old + reads_of event

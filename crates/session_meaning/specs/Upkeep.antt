-- What upkeep makes of the store, and what holds of it between the lines of a session.
use Rattle.std.specs.Prelude.{◌≡◌, ◌⊎◌, ℕ, ◌≤◌, None, Some, length}
use Rattle.span_types.specs.Faults.{Rose}
use Rattle.store_model.specs.State.{free_files, kept_files}
use Rattle.store_model.specs.Step.{Machine, with_state}
use Rattle.session_meaning.specs.At.{At}

-- What emptied so many loose files: in a store that writes all those that no pin names, and they are loose no more.
pub record HasEmptied (m : Machine) (files : ℕ) (m' : Machine) : Type 0 where
  pub writes : m.read_only ≡ None
  pub all : files ≡ length (free_files m.state)
  pub leaves : m' ≡ with_state (record m.state { loose = kept_files m.state }) m

-- no job is open
pub record HasNoJob (m : Machine) : Type 0 where
  pub flush : m.state.flush ≡ None
  pub compaction : m.state.compaction ≡ None

-- While it writes no job is open: each one ends in its own line, but for one whose commit the disk failed.
abbrev pub IsClosed : Machine → Type 0
IsClosed m = m.read_only ≡ None → HasNoJob m

-- It writes; or a call of the disk failed since it had counted so many faults, and the count after that is the one that the store
-- tells from then on.
abbrev pub HasFailedSince : ℕ → At → Type 0
HasFailedSince start at =
    (at.machine.read_only ≡ None) ⊎ ((n : ℕ) × (at.machine.read_only ≡ Some n) × Rose start n × (n ≤ at.faults))

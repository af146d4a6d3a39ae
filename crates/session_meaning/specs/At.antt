-- Where a session stands between two lines, and what an event of the store makes of that.
use Rattle.std.specs.Prelude.{Bool, false, ◌≡◌, ℕ, ◌≤◌}
use Rattle.client_run.specs.CoreRuns.{IsCounted, is_fault}
use Rattle.store_model.specs.Event.{Event as event, Reply as reply}
use Rattle.store_model.specs.History.{History}
use Rattle.store_model.specs.Step.{Machine, Step}

-- The store's machine, whose history is the pushes that were accepted so far, and how many faults its disk has counted.
pub record At : Type 0 where
  pub machine : Machine
  pub faults : ℕ

abbrev pub history_of : At → History
history_of at = at.machine.history

-- Nothing of the store changed. One call of its disk failed, or none.
abbrev pub IsUnchanged : Bool → At → At → Type 0
IsUnchanged failed before after =
    (after.machine ≡ before.machine) × (before.faults ≤ after.faults) × IsCounted failed before.faults after.faults

-- Nothing of the store changed, and no call of its disk failed.
abbrev pub IsStill : At → At → Type 0
IsStill before after = IsUnchanged false before after

-- One event of the store was answered so, and leaves that. One call of the disk failed where it answers a fault, else none.
abbrev pub IsStep : At → event → reply → At → Type 0
IsStep before e r after =
    (before.faults ≤ after.faults) × Step before.faults after.faults before.machine e r after.machine
    × IsCounted (is_fault r) before.faults after.faults

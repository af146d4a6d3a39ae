use Rattle.std.proofs.Common.{◌≡◌, ◌<◌, ℕ, true}
use Rattle.store_files.specs.Pins.{is_taken}
use Rattle.store_files.proofs.pins.first_free.Given as goal

abbrev pub invariant-loop-at : goal.invariant-loop-at
invariant-loop-at l = (other : ℕ) → other < l.at → is_taken other l.pins ≡ true

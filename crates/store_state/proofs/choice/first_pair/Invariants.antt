-- So far what the walk knows is right of the blocks after the position.
use Rattle.std.proofs.Common.{◌≡◌, ◌≤◌, length, drop}
use Rattle.store_state.specs.Pairing.{IsPairing}
use Rattle.store_state.proofs.choice.first_pair.Given as goal

abbrev pub invariant-loop-at : goal.invariant-loop-at
invariant-loop-at l = record {
  within : l.at ≤ length l.blocks;
  level : l.pairing.level ≡ l.level;
  pairing : IsPairing l.pairing l.at (drop l.at l.blocks);
}

abbrev pub decreases-loop-at : goal.decreases-loop-at
decreases-loop-at l = l.at

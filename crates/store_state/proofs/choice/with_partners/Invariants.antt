-- With what is to be joined from here on it is what was to be joined from the first block on.
use Rattle.std.proofs.Common.{◌≡◌, ◌+◌, ◌++◌, drop}
use Rattle.store_state.specs.Pairing.{joined_at}
use Rattle.store_state.proofs.choice.with_partners.Given as goal

abbrev pub invariant-loop-at : goal.invariant-loop-at
invariant-loop-at l =
    l.joining.chosen.items ++ joined_at l.joining.level l.joining.room l.joining.left l.at (drop l.at l.blocks)
    ≡ l.initial.joining.chosen.items ++ joined_at l.initial.joining.level l.initial.joining.room l.initial.joining.left (l.start + 1) (drop (l.start + 1) l.blocks)

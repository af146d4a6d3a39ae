-- The choice is that from this level on.
use Rattle.std.proofs.Common.{◌≡◌, ◌-◌, List, map}
use Rattle.store_model.specs.State.{Block}
use Rattle.store_model.specs.Choice.{choice, chosen_from}
use Rattle.store_state.specs.Listed.{ref_of}
use Rattle.store_state.proofs.choice.choose.Given as goal

abbrev pub invariant-loop-level : goal.invariant-loop-level
invariant-loop-level l = (listed : List Block) → map ref_of listed ≡ l.blocks → choice listed ≡ chosen_from l.level (63 - l.level) listed

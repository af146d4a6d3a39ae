-- So far the list has the information at the positions that were passed.
use Rattle.std.proofs.Common.{◌≡◌, take}
use Rattle.store_core.specs.Beginning.{at_places}
use Rattle.store_core.proofs.state.CoreState.infos_at.Given as goal

abbrev pub invariant-loop-at : goal.invariant-loop-at
invariant-loop-at l = l.infos.items ≡ at_places (take l.at-index l.chosen) l.self.infos.items

-- So far the new list has what was copied.
use Rattle.std.proofs.Common.{◌≡◌, take}
use Rattle.store_core.proofs.state.CoreState.copy_infos.Given as goal

abbrev pub invariant-loop-info : goal.invariant-loop-info
invariant-loop-info l = l.infos.items ≡ take l.info-index l.info-items

use Rattle.std.proofs.Common.{refl}
use Rattle.store_core.proofs.NewCores.{new_state_is}
use Rattle.store_core.proofs.new_store.new_state.Goals as goal

pub returns : goal.returns
returns c = new_state_is _ c.requires c.new.ensures.0 c.new.ensures.1 c.new.ensures.2 c.new-2.ensures.items c.fresh.ensures.0 c.fresh.ensures.1 c.fresh.ensures.2 c.fresh.ensures.3 c.new-3.ensures.items refl refl c.idle-jobs.ensures

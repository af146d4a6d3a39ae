use Rattle.shared_store.proofs.Leaves.{own_leaves}
use Rattle.shared_store.proofs.held.a_call_leaves_what_others_hold.Goals as goal

pub returns : goal.returns
returns c = own_leaves

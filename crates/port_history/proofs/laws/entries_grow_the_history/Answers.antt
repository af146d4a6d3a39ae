use Rattle.port_history.proofs.Chains.{from_is_grown}
use Rattle.port_history.proofs.laws.entries_grow_the_history.Goals as goal

pub returns : goal.returns
returns c = from_is_grown

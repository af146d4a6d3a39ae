use Rattle.shared_store.proofs.Lists.{strangers_parts}
use Rattle.shared_store.proofs.held.parts_are_apart.Goals as goal

pub returns : goal.returns
returns c = strangers_parts

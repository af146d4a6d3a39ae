use Rattle.look_laws.proofs.Events.{own_pieces}
use Rattle.look_laws.proofs.laws.events_write_own_pieces.Goals as goal

pub returns : goal.returns
returns c = own_pieces

use Rattle.session_meaning.proofs.ServedRoom.{no_write_there, room_there, serving_well}
use Rattle.session_meaning.proofs.serving_laws.what_has_room_is_done_among_clients.Goals as goal

pub returns-clause-one_call : goal.returns-clause-one_call
returns-clause-one_call c = room_there

pub returns-clause-no_write : goal.returns-clause-no_write
returns-clause-no_write c = no_write_there

pub returns-clause-well : goal.returns-clause-well
returns-clause-well c = serving_well

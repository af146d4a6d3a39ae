use Rattle.session_meaning.proofs.ServedRounds.{decided_there, done_there, nothing_told, refused_there, served_with_room}
use Rattle.session_meaning.proofs.serving_rounds.rounds_of_clients_have_their_causes.Goals as goal

pub returns-clause-refused : goal.returns-clause-refused
returns-clause-refused c = refused_there

pub returns-clause-nothing : goal.returns-clause-nothing
returns-clause-nothing c = nothing_told

pub returns-clause-decided : goal.returns-clause-decided
returns-clause-decided c = decided_there

pub returns-clause-done : goal.returns-clause-done
returns-clause-done c = done_there

pub returns-clause-well : goal.returns-clause-well
returns-clause-well c = served_with_room

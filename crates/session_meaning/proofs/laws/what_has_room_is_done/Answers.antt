use Rattle.session_meaning.proofs.LineRoom.{each_with_room, line_with_room, line_without_write, reopening_without_faults, run_with_room}
use Rattle.session_meaning.proofs.laws.what_has_room_is_done.Goals as goal

pub returns-clause-one : goal.returns-clause-one
returns-clause-one c = line_with_room

pub returns-clause-no_write : goal.returns-clause-no_write
returns-clause-no_write c = line_without_write

pub returns-clause-each : goal.returns-clause-each
returns-clause-each c = each_with_room

pub returns-clause-of_runs : goal.returns-clause-of_runs
returns-clause-of_runs c = run_with_room

pub returns-clause-reopened : goal.returns-clause-reopened
returns-clause-reopened c = reopening_without_faults

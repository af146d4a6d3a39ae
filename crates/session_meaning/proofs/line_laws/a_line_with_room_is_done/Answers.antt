use Rattle.session_meaning.proofs.LinePlaces.{line_there, placed, run_ends_by_lines, run_line}
use Rattle.session_meaning.proofs.line_laws.a_line_with_room_is_done.Goals as goal

pub returns-clause-placed : goal.returns-clause-placed
returns-clause-placed c = placed

pub returns-clause-there : goal.returns-clause-there
returns-clause-there c = line_there

pub returns-clause-of_runs : goal.returns-clause-of_runs
returns-clause-of_runs c = run_line

pub returns-clause-well_by_lines : goal.returns-clause-well_by_lines
returns-clause-well_by_lines c = run_ends_by_lines

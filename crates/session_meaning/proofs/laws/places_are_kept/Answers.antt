use Rattle.session_meaning.proofs.Places.{acts_close, acts_fail, open_lists}
use Rattle.session_meaning.proofs.laws.places_are_kept.Goals as goal

pub returns-clause-listed : goal.returns-clause-listed
returns-clause-listed c = open_lists

pub returns-clause-closed : goal.returns-clause-closed
returns-clause-closed c = acts_close

pub returns-clause-read_only : goal.returns-clause-read_only
returns-clause-read_only c = acts_fail

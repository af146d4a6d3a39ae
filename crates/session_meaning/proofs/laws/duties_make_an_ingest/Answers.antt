use Rattle.session_meaning.proofs.Following.{ends_whole, pushes_lines, stops_somewhere}
use Rattle.session_meaning.proofs.laws.duties_make_an_ingest.Goals as goal

pub returns-clause-stops : goal.returns-clause-stops
returns-clause-stops c = stops_somewhere

pub returns-clause-ends : goal.returns-clause-ends
returns-clause-ends c = ends_whole

pub returns-clause-reads : goal.returns-clause-reads
returns-clause-reads c = pushes_lines

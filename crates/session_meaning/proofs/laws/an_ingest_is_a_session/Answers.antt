use Rattle.session_meaning.proofs.IngestLaws.{ingest_is_session}
use Rattle.session_meaning.proofs.IngestParts.{ingest_session, pushes_session}
use Rattle.session_meaning.proofs.laws.an_ingest_is_a_session.Goals as goal

pub returns-clause-as_far : goal.returns-clause-as_far
returns-clause-as_far c = ingest_session

pub returns-clause-lines : goal.returns-clause-lines
returns-clause-lines c = pushes_session

pub returns-clause-duties : goal.returns-clause-duties
returns-clause-duties c = ingest_is_session

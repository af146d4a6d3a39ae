use Rattle.session_meaning.proofs.IngestParts.{ingest_finishes}
use Rattle.session_meaning.proofs.laws.an_ingest_finishes.Goals as goal

pub returns : goal.returns
returns c = ingest_finishes

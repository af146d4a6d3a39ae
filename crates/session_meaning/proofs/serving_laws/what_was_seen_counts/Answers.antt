use Rattle.session_meaning.proofs.ServedLaws.{seen_counts}
use Rattle.session_meaning.proofs.serving_laws.what_was_seen_counts.Goals as goal

pub returns : goal.returns
returns c = seen_counts

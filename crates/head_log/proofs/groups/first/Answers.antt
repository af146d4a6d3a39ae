use Rattle.std.proofs.lemmas.List.{map-id}
use Rattle.head_log.proofs.groups.first.Goals as goal

pub returns-clause-runs : goal.returns-clause-runs
returns-clause-runs g c = simp map-id at c.first_run.ensures.runs

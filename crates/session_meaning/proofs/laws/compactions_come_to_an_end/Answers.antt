use Rattle.session_meaning.proofs.IngestRounds.{all_fewer, joined_end}
use Rattle.session_meaning.proofs.laws.compactions_come_to_an_end.Goals as goal

pub returns-clause-bounded : goal.returns-clause-bounded
returns-clause-bounded c = joined_end

pub returns-clause-fewer : goal.returns-clause-fewer
returns-clause-fewer c = all_fewer

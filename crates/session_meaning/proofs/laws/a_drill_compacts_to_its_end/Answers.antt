use Rattle.session_meaning.proofs.DrillLaws.{compacts_to_its_end}
use Rattle.session_meaning.proofs.laws.a_drill_compacts_to_its_end.Goals as goal

pub returns : goal.returns
returns c = compacts_to_its_end

use Rattle.column_scan.proofs.PickLaws.{picked}
use Rattle.column_scan.proofs.laws.answered_is_picked.Goals as goal

pub returns : goal.returns
returns c = λ ps q range rows firsts picks id r is are result. picked ps q range rows firsts picks id r is are result

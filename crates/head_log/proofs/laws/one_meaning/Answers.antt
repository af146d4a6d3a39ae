use Rattle.head_log.proofs.AgainRecords.{one_list}
use Rattle.head_log.proofs.laws.one_meaning.Goals as goal

pub returns : goal.returns
returns c = one_list

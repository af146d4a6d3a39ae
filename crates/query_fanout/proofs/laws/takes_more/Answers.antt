use Rattle.query_fanout.proofs.TakingLaws.{takes_more, takes_more_read}
use Rattle.query_fanout.proofs.laws.takes_more.Goals as goal

pub returns-clause-same : goal.returns-clause-same
returns-clause-same c = takes_more

pub returns-clause-read : goal.returns-clause-read
returns-clause-read c = takes_more_read

use Rattle.compactor.proofs.JoinLaws.{first_least}
use Rattle.compactor.proofs.joining.first_trace.Goals as goal

pub returns : goal.returns
returns c = first_least c.trace.result c.args.left.now c.trace.ensures.none c.trace.ensures.some

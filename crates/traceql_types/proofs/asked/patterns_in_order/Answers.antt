use Rattle.traceql_types.proofs.InOrder.{reads_ascend}
use Rattle.traceql_types.proofs.asked.patterns_in_order.Goals as goal

pub returns : goal.returns
returns c = reads_ascend

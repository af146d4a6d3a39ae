use Rattle.traceql_value.proofs.Reduced.{one_ratio_of}
use Rattle.traceql_value.proofs.laws.one_ratio.Goals as goal

pub returns : goal.returns
returns c = one_ratio_of

use Rattle.traceql_value.proofs.Undivided.{value_whole}
use Rattle.traceql_value.proofs.laws.whole_without_division.Goals as goal

pub returns : goal.returns
returns c = value_whole

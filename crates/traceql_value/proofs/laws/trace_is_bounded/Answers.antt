use Rattle.traceql_value.proofs.WholeLaws.{start_law, end_law, length_law}
use Rattle.traceql_value.proofs.laws.trace_is_bounded.Goals as goal

pub returns : goal.returns
returns c = record { start = start_law; end = end_law; length = length_law }

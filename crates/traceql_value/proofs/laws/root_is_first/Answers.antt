use Rattle.traceql_value.proofs.WholeLaws.{root_law, rootless_law, one_root}
use Rattle.traceql_value.proofs.laws.root_is_first.Goals as goal

pub returns : goal.returns
returns c = record { root = root_law; none = rootless_law; one = one_root }

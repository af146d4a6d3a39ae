use Rattle.traceql_value.proofs.Orders.{value_cmp_total, value_cmp_strict}
use Rattle.traceql_value.proofs.laws.values_in_order.Goals as goal

pub returns : goal.returns
returns c = record { total = value_cmp_total; strict = value_cmp_strict }

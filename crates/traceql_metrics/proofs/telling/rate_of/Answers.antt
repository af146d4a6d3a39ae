use Rattle.std.proofs.Common.{◌*◌, ap, arith}
use Rattle.traceql_metrics.proofs.Rates.{rate_in_lowest, some_common}
use Rattle.traceql_metrics.proofs.telling.rate_of.Goals as goal

pub nonzero_div-result : goal.nonzero_div-result
nonzero_div-result c =
    some_common (c.from-numerator.result * 1000000000) c.from-denominator.result c.common_divisor-common.result (omega (arith, c.requires, c.from-denominator.ensures)) c.common_divisor-common.ensures

pub nonzero_div-result-2 : goal.nonzero_div-result-2
nonzero_div-result-2 c =
    some_common (c.from-numerator.result * 1000000000) c.from-denominator.result c.common_divisor-common.result (omega (arith, c.requires, c.from-denominator.ensures)) c.common_divisor-common.ensures

pub returns : goal.returns
returns c =
    rate_in_lowest c.args.step c.from-denominator.result c.args.count (c.from-numerator.result * 1000000000) c.common_divisor-common.result c.requires c.from-denominator.ensures
    (ap (λ n. n * 1000000000) c.from-numerator.ensures) c.common_divisor-common.ensures

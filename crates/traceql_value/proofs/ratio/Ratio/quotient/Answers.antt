use Rattle.std.proofs.Common.{rules}
use Rattle.traceql_value.proofs.Searched.{ratio_of-exact, some_size}
use Rattle.traceql_value.proofs.ratio.Ratio.quotient.Goals as goal

pub returns-then-denominator-lt0-clause-exact : goal.returns-then-denominator-lt0-clause-exact
returns-then-denominator-lt0-clause-exact c =
    ratio_of-exact c.of.result c.args.numerator c.args.denominator (some_size c.args.denominator c.requires.some) (search rules) (search rules)

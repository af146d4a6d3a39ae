use Rattle.std.proofs.Common.{ℤ, pos, IfSome, IfNone, subst}
use Rattle.std.specs.Int.{w128}
use Rattle.std.proofs.lemmas.Int.{to_z-of_z}
use Rattle.traceql_value.specs.Fractions.{IsRatioOf, NoneIsQuotient}
use Rattle.traceql_value.proofs.Searched.{ratio_of-exact}
use Rattle.traceql_value.proofs.ratio.Ratio.of.Goals as goal

pub returns-clause-exact : goal.returns-clause-exact
returns-clause-exact c =
    let same = to_z-of_z w128 c.args.numerator c.ranges.numerator in
    let q = pos c.args.denominator in
    ratio_of-exact c.reduced.result c.args.numerator q c.requires.above
    (subst (λ (z : ℤ). IfSome c.reduced.result (IsRatioOf z q)) same c.reduced.ensures.value)
    (subst (λ (z : ℤ). IfNone c.reduced.result (NoneIsQuotient z q)) same c.reduced.ensures.nil)

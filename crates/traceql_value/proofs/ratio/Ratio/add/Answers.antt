use Rattle.std.proofs.Common.{rules}
use Rattle.traceql_value.proofs.Answered.{IfNone-along}
use Rattle.traceql_value.proofs.ratio.Ratio.add.Goals as goal

pub returns-clause-nil : goal.returns-clause-nil
returns-clause-nil c = IfNone-along c.of.result _ _ _ _ (search rules) (search rules) c.of.ensures.nil

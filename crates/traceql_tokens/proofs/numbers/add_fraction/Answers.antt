use Rattle.std.proofs.Common.{arith}
use Rattle.traceql_tokens.specs.Sums.{column_value}
use Rattle.traceql_tokens.proofs.Columns.{add_kept}
use Rattle.traceql_tokens.proofs.numbers.add_fraction.Goals as goal

pub loop-left-preserved : goal.loop-left-preserved
loop-left-preserved c =
    add_kept c.loop-left.columns c.args.fraction.now c.loop-left.left c.loop-left.carry c.args.nanos (column_value c.args.columns.now) c.from.result c.from-in-loop-left.result (omega arith) (omega arith) (omega arith) (omega arith) (omega arith) c.loop-left.invariant.1 c.requires.digits c.from.ensures c.from-in-loop-left.ensures c.loop-left.invariant.3

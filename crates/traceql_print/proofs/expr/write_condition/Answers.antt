use Rattle.std.proofs.Common.{sym}
use Rattle.traceql_print.proofs.Putting.{put_none}
use Rattle.traceql_print.proofs.expr.write_condition.Goals as goal

pub returns-in-None : goal.returns-in-None
returns-in-None c = rw c.in-None.is (sym (put_none c.args.printer.now))

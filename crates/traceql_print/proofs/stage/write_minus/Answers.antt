use Rattle.std.proofs.Common.{◌∙◌}
use Rattle.traceql_print.proofs.Putting.{put_one}
use Rattle.traceql_print.proofs.stage.write_minus.Goals as goal

pub returns-in_ok-sign : goal.returns-in_ok-sign
returns-in_ok-sign c = rw c.if-negative.true (c.in_ok-sign.ensures ∙ put_one _ _)

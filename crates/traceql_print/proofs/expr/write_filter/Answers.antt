use Rattle.std.proofs.lemmas.Result.{on_ok_weaker}
use Rattle.traceql_print.proofs.Putting.{put_between}
use Rattle.traceql_print.proofs.expr.write_filter.Goals as goal

pub returns : goal.returns
returns c =
    on_ok_weaker c.sign-2.result
    (λ e. put_between _ _ _ _ _ _ _ c.in_ok-sign.ensures c.in_ok-write_condition.ensures e)
    c.sign-2.ensures

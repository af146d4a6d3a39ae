use Rattle.std.proofs.lemmas.Result.{on_ok_weaker}
use Rattle.traceql_print.proofs.Putting.{put_both}
use Rattle.traceql_print.proofs.stage.write_query.Goals as goal

pub returns : goal.returns
returns c =
    on_ok_weaker c.write_stages.result (λ e. put_both _ _ _ _ _ c.in_ok-write_set.ensures e) c.write_stages.ensures

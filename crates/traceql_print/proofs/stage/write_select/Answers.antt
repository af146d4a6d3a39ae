use Rattle.std.proofs.lemmas.Result.{on_ok_weaker}
use Rattle.traceql_print.proofs.Putting.{put_call}
use Rattle.traceql_print.proofs.stage.write_select.Goals as goal

pub returns : goal.returns
returns c =
    on_ok_weaker c.sign-2.result
    (λ e. put_call _ _ _ _ _ _ _ c.in_ok-word.ensures c.in_ok-sign.ensures c.in_ok-write_fields.ensures e)
    c.sign-2.ensures

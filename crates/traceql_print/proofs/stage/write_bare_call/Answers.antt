use Rattle.std.proofs.Common.{sym}
use Rattle.std.proofs.lemmas.Result.{on_ok_weaker}
use Rattle.traceql_print.proofs.Putting.{put_none, put_call}
use Rattle.traceql_print.proofs.stage.write_bare_call.Goals as goal

pub returns : goal.returns
returns c =
    on_ok_weaker c.sign-2.result
    (λ e. put_call _ _ _ _ _ _ _ c.in_ok-word.ensures c.in_ok-sign.ensures (sym (put_none c.sign.new.self)) e)
    c.sign-2.ensures

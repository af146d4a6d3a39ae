use Rattle.std.proofs.lemmas.Result.{on_ok_weaker}
use Rattle.traceql_print.proofs.Putting.{put_signed}
use Rattle.traceql_print.proofs.stage.write_threshold.Goals as goal

pub returns-in_ok-write_minus-in-Number : goal.returns-in_ok-write_minus-in-Number
returns-in_ok-write_minus-in-Number c =
    rw c.in-Number.is (on_ok_weaker c.number.result (λ e. put_signed _ _ _ _ _ c.in_ok-write_minus-in-Number.ensures e) c.number.ensures)

pub returns-in_ok-write_minus-in-Duration : goal.returns-in_ok-write_minus-in-Duration
returns-in_ok-write_minus-in-Duration c =
    rw c.in-Duration.is (on_ok_weaker c.duration.result (λ e. put_signed _ _ _ _ _ c.in_ok-write_minus-in-Duration.ensures e) c.duration.ensures)

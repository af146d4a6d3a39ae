use Rattle.std.proofs.Common.{ap, ◌∙◌}
use Rattle.std.proofs.lemmas.Result.{on_ok_weaker}
use Rattle.traceql_tokens.specs.declared.kinds.TokenKind.TheVariants as token
use Rattle.traceql_print.specs.Printer.{put}
use Rattle.traceql_print.proofs.Putting.{put_around}
use Rattle.traceql_print.proofs.stage.write_stage.Goals as goal

pub returns-in_ok-sign-in-Compare : goal.returns-in_ok-sign-in-Compare
returns-in_ok-sign-in-Compare c =
    let mark = c.in_ok-sign-in-Compare.ensures ∙ ap (λ s. put c.write_aggregate.new.printer (token.Mark s)) c.comparison_sign.ensures in
    rw c.in-Compare.is (on_ok_weaker c.write_threshold.result (λ e. put_around _ _ _ _ _ _ _ c.in_ok-write_aggregate-in-Compare.ensures mark e) c.write_threshold.ensures)

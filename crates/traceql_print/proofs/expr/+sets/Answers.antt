use Rattle.std.proofs.Common.{◌∙◌, ap, sym}
use Rattle.std.proofs.lemmas.Result.{on_ok_weaker}
use Rattle.traceql_tokens.specs.declared.kinds.TokenKind.TheVariants as token
use Rattle.traceql_print.specs.Printer.{put}
use Rattle.traceql_print.proofs.Putting.{put_around, put_operand_parens}
use Rattle.traceql_print.proofs.expr.+sets.Goals as goal

pub write_set-returns-in_ok-sign-in-Join : goal.write_set-returns-in_ok-sign-in-Join
write_set-returns-in_ok-sign-in-Join t c =
    let left = rw c.deref.ensures at c.in_ok-write_set_operand-in-Join.ensures in
    let mark = c.in_ok-sign-in-Join.ensures ∙ ap (λ s. put c.write_set_operand.new.printer (token.Mark s)) c.set_sign.ensures in
    let right = rw c.deref-in-Join.ensures at c.write_set_operand-in-Join.ensures in
    rw c.in-Join.is (on_ok_weaker c.write_set_operand-in-Join.result (λ e. put_around _ _ _ _ _ _ _ left mark e) right)

pub write_set_operand-returns : goal.write_set_operand-returns
write_set_operand-returns t c =
    on_ok_weaker c.sign-2.result
    (λ e. put_operand_parens _ _ _ _ _ _ (sym c.is_join.ensures ∙ c.if-not-is_join.false) c.in_ok-sign.ensures c.in_ok-write_set.ensures e)
    c.sign-2.ensures

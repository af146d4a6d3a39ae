use Rattle.std.proofs.Common.{◌∙◌, ap, sym}
use Rattle.std.proofs.lemmas.Result.{on_ok_weaker}
use Rattle.traceql_tokens.specs.declared.kinds.TokenKind.TheVariants as token
use Rattle.traceql_print.specs.Printer.{put}
use Rattle.traceql_print.proofs.Putting.{put_one, put_before, put_around, put_operand_parens}
use Rattle.traceql_print.proofs.expr.+exprs.Goals as goal

pub write_expr-returns-in-Literal : goal.write_expr-returns-in-Literal
write_expr-returns-in-Literal t c = rw c.in-Literal.is (on_ok_weaker c.literal.result (λ e. e ∙ put_one _ _) c.literal.ensures)

pub write_expr-returns-in-Field : goal.write_expr-returns-in-Field
write_expr-returns-in-Field t c = rw c.in-Field.is (on_ok_weaker c.field.result (λ e. e ∙ put_one _ _) c.field.ensures)

pub write_expr-returns-in_ok-sign-in-Unary : goal.write_expr-returns-in_ok-sign-in-Unary
write_expr-returns-in_ok-sign-in-Unary t c =
    let mark = c.in_ok-sign-in-Unary.ensures ∙ ap (λ s. put c.args.printer.now (token.Mark s)) c.unary_sign.ensures in
    let under = rw c.deref.ensures at c.write_operand.ensures in
    rw c.in-Unary.is (on_ok_weaker c.write_operand.result (λ e. put_before _ _ _ _ _ mark e) under)

pub write_expr-returns-in_ok-sign-in-Binary : goal.write_expr-returns-in_ok-sign-in-Binary
write_expr-returns-in_ok-sign-in-Binary t c =
    let left = rw c.deref-in-Binary.ensures at c.in_ok-write_operand-in-Binary.ensures in
    let mark = c.in_ok-sign-in-Binary.ensures ∙ ap (λ s. put c.write_operand-in-Binary.new.printer (token.Mark s)) c.binary_sign.ensures in
    let right = rw c.deref-in-Binary-2.ensures at c.write_operand-in-Binary-2.ensures in
    rw c.in-Binary.is (on_ok_weaker c.write_operand-in-Binary-2.result (λ e. put_around _ _ _ _ _ _ _ left mark e) right)

pub write_expr-returns-in_ok-sign-in-Match : goal.write_expr-returns-in_ok-sign-in-Match
write_expr-returns-in_ok-sign-in-Match t c =
    let left = rw c.deref-in-Match.ensures at c.in_ok-write_operand-in-Match.ensures in
    let mark = c.in_ok-sign-in-Match.ensures ∙ ap (λ s. put c.write_operand-in-Match.new.printer (token.Mark s)) c.match_sign.ensures in
    let pattern = rw c.as_str.ensures at c.string.ensures in
    rw c.in-Match.is (on_ok_weaker c.string.result (λ e. put_around _ _ _ _ _ _ _ left mark (e ∙ put_one _ _)) pattern)

pub write_operand-returns : goal.write_operand-returns
write_operand-returns t c =
    on_ok_weaker c.sign-2.result
    (λ e. put_operand_parens _ _ _ _ _ _ (sym c.is_binary.ensures ∙ c.if-not-is_binary.false) c.in_ok-sign.ensures c.in_ok-write_expr.ensures e)
    c.sign-2.ensures

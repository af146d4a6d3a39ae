use Rattle.std.proofs.Common.{◌≡◌, ◌<◌, ◌+◌, [], ◌∷◌, ◌++◌, length, take, ap, sym, ◌∙◌, refl, arith}
use Rattle.std.proofs.lemmas.List.{take_more}
use Rattle.traceql_tokens.specs.declared.fixed.Sign.TheVariants as sign
use Rattle.traceql_tokens.specs.declared.kinds.TokenKind.TheVariants as token
use Rattle.traceql_print.specs.Signs.{field_kind}
use Rattle.traceql_print.specs.Kinds.{more_fields_kinds}
use Rattle.traceql_print.specs.Printer.{put, put_all}
use Rattle.traceql_print.proofs.Putting.{put_none, put_one, put_part}
use Rattle.traceql_print.proofs.stage.write_more_fields.Goals as goal

pub loop-field-init : goal.loop-field-init
loop-field-init c = sym (put_none _)

pub loop-field-preserved : goal.loop-field-preserved
loop-field-preserved c =
    let items = c.args.fields.now in
    let i = c.loop-field.field-index in
    let x = c.field-item.result in
    let within : i < length items = omega arith in
    let one : take (i + 1) items ≡ take i items ++ x ∷ [] = take_more items i x within ∙ ap (λ y. take i items ++ y ∷ []) (sym c.field-item.is) in
    let mark : c.sign.new.self ≡ put (put_all c.args.printer.now (more_fields_kinds (take i items))) (token.Mark sign.Comma) = c.in_ok-sign.ensures ∙ ap (λ s. put s (token.Mark sign.Comma)) c.loop-field.invariant in
    let rest : c.field.new.self ≡ put_all c.sign.new.self (field_kind x ∷ []) = c.in_ok-field.ensures ∙ put_one c.sign.new.self (field_kind x) in
    put_part (λ f. token.Mark sign.Comma ∷ field_kind f ∷ []) c.args.printer.now c.sign.new.self c.field.new.self (token.Mark sign.Comma) (take i items) x (field_kind x ∷ []) refl mark rest
    ∙ ap (λ xs. put_all c.args.printer.now (more_fields_kinds xs)) (sym one)

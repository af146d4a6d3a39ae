use Rattle.std.proofs.Common.{◌≡◌, ◌<◌, ◌+◌, [], ◌∷◌, ◌++◌, length, take, map, ap, sym, ◌∙◌, refl, arith}
use Rattle.std.proofs.lemmas.List.{map_more}
use Rattle.traceql_tokens.specs.declared.fixed.Sign.TheVariants as sign
use Rattle.traceql_tokens.specs.declared.kinds.TokenKind.TheVariants as token
use Rattle.traceql_syntax.specs.Trees.{stage_tree}
use Rattle.traceql_print.specs.Kinds.{stage_kinds, stages_kinds}
use Rattle.traceql_print.specs.Printer.{put, put_all}
use Rattle.traceql_print.proofs.Putting.{put_none, put_part}
use Rattle.traceql_print.proofs.stage.write_stages.Goals as goal

pub loop-stage-init : goal.loop-stage-init
loop-stage-init c = sym (put_none _)

pub loop-stage-preserved : goal.loop-stage-preserved
loop-stage-preserved c =
    let items = c.as_slice-stage-items.result.now in
    let i = c.loop-stage.stage-index in
    let x = c.stage-item.result in
    let within : i < length items = omega arith in
    let before = map stage_tree (take i items) in
    let one : map stage_tree (take (i + 1) items) ≡ before ++ stage_tree x ∷ [] = map_more stage_tree items i x within ∙ ap (λ y. before ++ stage_tree y ∷ []) (sym c.stage-item.is) in
    let mark : c.sign.new.self ≡ put (put_all c.args.printer.now (stages_kinds before)) (token.Mark sign.Bar) = c.in_ok-sign.ensures ∙ ap (λ s. put s (token.Mark sign.Bar)) c.loop-stage.invariant in
    put_part (λ s. token.Mark sign.Bar ∷ stage_kinds s) c.args.printer.now c.sign.new.self c.write_stage.new.printer (token.Mark sign.Bar) before (stage_tree x) (stage_kinds (stage_tree x)) refl mark c.in_ok-write_stage.ensures
    ∙ ap (λ xs. put_all c.args.printer.now (stages_kinds xs)) (sym one)

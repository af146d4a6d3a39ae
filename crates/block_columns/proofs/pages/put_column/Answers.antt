use Rattle.std.proofs.Common.{◌≡◌, All, List, take, ap, ◌∙◌, sym, subst, arith}
use Rattle.std.proofs.lemmas.List.{take_all}
use Rattle.std.proofs.lemmas.List.Elements.{All-more, All-nil}
use Rattle.block_columns.proofs.WritingSteps.{column_none, column_more}
use Rattle.block_columns.proofs.pages.put_column.Goals as goal

pub loop-value-init : goal.loop-value-init
loop-value-init g c = (column_none (g.P.Put.encoding c.args.kind.now) c.args.page.now, All-nil (g.P.Put.promise c.args.kind.now))

pub loop-value-preserved : goal.loop-value-preserved
loop-value-preserved g c = (
  column_more (g.P.Put.encoding c.args.kind.now) c.args.values.now c.loop-value.value-index _ c.args.page.now c.loop-value.page c.put.new.page (omega (arith, c.loop-value-test.true)) c.value-item.is c.loop-value.invariant.0 c.in_ok-put.ensures.written,
  All-more (g.P.Put.promise c.args.kind.now) c.args.values.now c.loop-value.value-index c.value-item.result (omega (arith, c.loop-value-test.true)) c.loop-value.invariant.1
      (subst (g.P.Put.promise c.args.kind.now) c.value-item.is c.in_ok-put.ensures.sound),
)

pub returns-clause-sound : goal.returns-clause-sound
returns-clause-sound g c =
    let whole : take c.loop-value.value-index c.args.values.now ≡ c.args.values.now = take_all c.loop-value.value-index c.args.values.now (omega (arith, c.loop-value-test.false)) in
    subst (λ (l : List _). All (g.P.Put.promise c.args.kind.now) l) whole c.loop-value.invariant.1

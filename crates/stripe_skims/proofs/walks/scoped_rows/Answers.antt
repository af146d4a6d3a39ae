use Rattle.std.proofs.Common.{◌∙◌}
use Rattle.stripe_skims.proofs.CellLaws.{scoped_told}
use Rattle.stripe_skims.proofs.walks.scoped_rows.Goals as goal

pub returns : goal.returns
returns g c =
    scoped_told (g.W.Walk.tells c.args.walk.now) c.args.extended c.args.texts.now _ _ c.args.fields.now c.table.new.fields c.number.new.self c.columns.new.fields _ c.as_slice.result.now c.in-Ok-number.count c.columns.result
    c.in-Ok.ensures c.in-Ok-number.ensures c.if-count-eq0.false c.if-count-gt256.false c.fork-list.ensures (c.as_slice.ensures.value ∙ c.in-Ok-shared.ensures) c.columns.ensures

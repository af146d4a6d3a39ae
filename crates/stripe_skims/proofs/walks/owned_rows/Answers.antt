use Rattle.std.proofs.Common.{◌∙◌}
use Rattle.stripe_skims.proofs.CellLaws.{owned_told}
use Rattle.stripe_skims.proofs.walks.owned_rows.Goals as goal

pub returns : goal.returns
returns g c =
    owned_told (g.W.Walk.tells c.args.walk.now) c.args.extended c.args.texts.now _ c.args.fields.now c.table.new.fields c.scoped_rows.new.fields _ c.as_slice.result.now c.scoped_rows.result
    c.in-Ok.ensures c.fork-list.ensures (c.as_slice.ensures.value ∙ c.in-Ok-shared.ensures) c.scoped_rows.ensures

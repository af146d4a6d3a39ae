use Rattle.std.proofs.Common.{◌<◌, ◌^◌, arith, length}
use Rattle.std.proofs.lemmas.List.Elements.{recursion_from_All}
use Rattle.byte_fields.proofs.Results.{on_ok_more}
use Rattle.block_columns.proofs.pages.put_counted.Goals as goal

pub returns-clause-sound : goal.returns-clause-sound
returns-clause-sound g c = on_ok_more c.put_column.result _ _ c.put_column.ensures.sound (λ each.
    let few : length c.args.values.now < 2 ^ 64 = omega (arith, c.count.ensures, c.count.type_inv) in
    record { each = recursion_from_All (g.P.Put.promise c.args.kind.now) c.args.values.now each; few = few })

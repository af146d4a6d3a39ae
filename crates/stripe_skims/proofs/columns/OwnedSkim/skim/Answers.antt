use Rattle.std.proofs.Common.{refl, subst}
use Rattle.block_columns.specs.ColumnReadings.{Spot, column_at, reference_at}
use Rattle.stripe_skims.specs.Sure.{Passes}
use Rattle.stripe_skims.proofs.ColumnLaws.{owned_skims}
use Rattle.stripe_skims.proofs.columns.OwnedSkim.skim.Goals as goal

pub returns : goal.returns
returns g c =
    let table = c.args.self.now.table.now in
    let passes = subst (λ (s : Spot). Passes (column_at (reference_at table) c.args.count s) c.pass_items.new.fields) c.count_from.ensures (c.if-not-pass_items.ensures.passes refl) in
    owned_skims (g.K.Kind.reading c.args.self.now.kind) c.args.self.now.list table c.args.count c.args.fields.now c.pass_items.new.fields c.count_from-2.new.self c.used-outer.result c.used.result _ passes
    c.used.ensures c.if-used-self.false c.used-outer.ensures c.count_from-2.ensures

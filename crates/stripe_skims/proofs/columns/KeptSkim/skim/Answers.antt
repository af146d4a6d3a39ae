use Rattle.std.proofs.Common.{refl}
use Rattle.stripe_skims.proofs.ColumnLaws.{kept_skims}
use Rattle.stripe_skims.proofs.columns.KeptSkim.skim.Goals as goal

pub returns : goal.returns
returns g c = kept_skims _ (g.K.Kind.reading c.args.self.now.kind) c.args.count c.args.fields.now c.column.new.fields _ _ c.in-Ok.ensures refl

use Rattle.std.proofs.Common.{refl}
use Rattle.stripe_skims.proofs.ColumnLaws.{passed_skims}
use Rattle.stripe_skims.proofs.columns.PassedSkim.skim.Goals as goal

pub returns : goal.returns
returns g c = passed_skims (g.P.Pass.reading c.args.self.now.kind) c.args.count c.args.fields.now c.pass_items.new.fields _ (c.if-not-pass_items.ensures.passes refl)

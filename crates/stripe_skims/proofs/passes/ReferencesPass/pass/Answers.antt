use Rattle.std.proofs.Common.{refl, sym, ◌∙◌}
use Rattle.stripe_skims.proofs.SkipLaws.{refers_passes}
use Rattle.stripe_skims.proofs.passes.ReferencesPass.pass.Goals as goal

pub returns-clause-passes : goal.returns-clause-passes
returns-clause-passes g c = λ some. refers_passes c.args.self.now.table.now c.pass_reference.result _ c.args.fields.now c.pass_reference.new.fields refl c.pass_reference.ensures (sym c.is_some.ensures ∙ some)

use Rattle.std.proofs.Common.{Bor, refl, sym}
use Rattle.byte_fields.proofs.Results.{on_ok_more}
use Rattle.block_columns.proofs.WritingSteps.{referenced}
use Rattle.block_columns.proofs.pages.Page.reference.Goals as goal

pub returns : goal.returns
returns g c =
    on_ok_more c.var.result _ _ c.var.ensures.ok (λ out. rw (sym c.self.view_is) (referenced (λ (k : Bor _). k.now) g.T.PartialEq.eq _ c.args.value (λ a. refl) c.self.inside.values.keys c.number_of.new.values.keys c.self.inside.out c.var.new.self c.in_ok-number.number c.in_ok-number.ensures.number c.in_ok-number.ensures.keys out))

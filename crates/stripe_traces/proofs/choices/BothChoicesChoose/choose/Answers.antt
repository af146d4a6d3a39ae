use Rattle.std.proofs.Common.{length}
use Rattle.stripe_traces.proofs.ChosenLaws.{both_chosen}
use Rattle.stripe_traces.proofs.choices.BothChoicesChoose.choose.Goals as goal

pub returns : goal.returns
returns g c =
    both_chosen (g.L.Choose.reading c.args.self.left) (g.R.Choose.reading c.args.self.right) c.args.wanted.now (length c.args.wanted.now) c.args.fields.now c.choose.new.fields c.choose-2.new.fields
    c.in_ok-left.left.items c.in_ok-right.right.items c.in-Ok.rows.items c.in_ok-left.ensures c.in_ok-right.ensures c.in-Ok.ensures

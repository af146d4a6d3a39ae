use Rattle.std.proofs.Common.{length}
use Rattle.stripe_traces.proofs.ChosenLaws.{owned_chosen}
use Rattle.stripe_traces.proofs.choices.OwnedChoiceChoose.choose.Goals as goal

pub returns : goal.returns
returns g c =
    owned_chosen (g.K.Kind.reading c.args.self.kind) c.args.self.list c.args.self.table.now c.args.wanted.now (length c.args.wanted.now) c.args.fields.now c.count_from.new.self c.choose_items.new.fields
    c.count_from-2.new.self c.used-outer.result c.used.result c.in_ok-values.values.items c.count_from.ensures c.in_ok-values.ensures c.used.ensures c.if-used-self.false c.used-outer.ensures c.count_from-2.ensures

use Rattle.std.proofs.Common.{refl}
use Rattle.stripe_skims.proofs.ItemLaws.{list_not_there, list_there}
use Rattle.stripe_skims.proofs.items.pass_list.Goals as goal

pub returns-then-not-there-clause-passes : goal.returns-then-not-there-clause-passes
returns-then-not-there-clause-passes g c = list_not_there c.args.there (g.P.Pass.reading c.args.kind.now) c.args.fields.now c.if-not-there.true

pub returns-clause-passes : goal.returns-clause-passes
returns-clause-passes g c =
    list_there c.args.there (g.P.Pass.reading c.args.kind.now) c.args.fields.now c.number.new.self c.pass_items.new.fields c.in-Ok.count c.if-not-there.false c.in-Ok.ensures (c.if-not-pass_items.ensures.passes refl)

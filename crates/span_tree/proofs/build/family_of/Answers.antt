use Rattle.std.proofs.Common.{◌≡◌, rules, None}
use Rattle.std.specs.BTreeMap.{get}
use Rattle.span_types.specs.Orders.{span_cmp}
use Rattle.span_tree.proofs.Ids.{other_kept}
use Rattle.span_tree.proofs.BuildLaws.{joins_fresh}
use Rattle.span_tree.proofs.build.family_of.Goals as goal

pub returns : goal.returns
returns c =
    let updates = c.in_ok-insert.ensures.updates in
    let none : get span_cmp c.args.firsts.now c.in-Some.parent ≡ None = search rules in
    joins_fresh (get span_cmp c.args.firsts.now) (get span_cmp c.insert.new.self) c.args.parent c.in-Some.parent c.args.position c.in-Some.is none updates.1
    (λ q ne. other_kept (get span_cmp c.args.firsts.now) (get span_cmp c.insert.new.self) _ q _ (updates.0 q) ne)

use Rattle.std.proofs.Common.{◌≡◌, length, subst, sym, arith, ◌+◌}
use Rattle.std.specs.BTreeMap.{get}
use Rattle.span_types.specs.Orders.{span_cmp}
use Rattle.span_tree.proofs.BuildLaws.{FamiliesBelow, families_more, families_whole, parent_at_place}
use Rattle.span_tree.proofs.build.families.Goals as goal

pub loop-position-preserved : goal.loop-position-preserved
loop-position-preserved c =
    subst (λ fs. FamiliesBelow c.args.nodes.now (get span_cmp c.family_of.new.firsts) fs (c.loop-position.position + 1)) (sym c.in_ok-push.ensures.items)
    (families_more c.args.nodes.now (get span_cmp c.loop-position.firsts) (get span_cmp c.family_of.new.firsts) c.loop-position.families.items c.loop-position.position _ c.in_ok-family.family
    c.loop-position.invariant (parent_at_place c.args.nodes.now c.loop-position.position _ (omega arith)) c.in_ok-family.ensures)

pub returns : goal.returns
returns c =
    let whole : c.loop-position.position ≡ length c.args.nodes.now = omega arith in
    families_whole c.args.nodes.now (get span_cmp c.loop-position.firsts) c.loop-position.families.items
    (subst (λ k. FamiliesBelow c.args.nodes.now (get span_cmp c.loop-position.firsts) c.loop-position.families.items k) whole c.loop-position.invariant)

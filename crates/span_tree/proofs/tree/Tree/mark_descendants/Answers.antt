use Rattle.std.proofs.Common.{◌≡◌, length, refl, ap, ◌∙◌}
use Rattle.span_tree.specs.Relations.{IsAncestor}
use Rattle.span_tree.proofs.RelationLaws.{parents_at, marks_at, within_at, parents_within, ends_within, last_within, before_within, descendants_marked}
use Rattle.span_tree.proofs.tree.Tree.mark_descendants.Goals as goal

pub members_of-requires : goal.members_of-requires
members_of-requires g c =
    let has = parents_at _ _ _ _ c.self.view_is refl c.self.invariant.has_parents in
    within_at c.self.inside.parents (length c.args.self.now) (length c.self.inside.parents) has.one_each (parents_within c.args.self.now c.self.inside.parents has)

pub reached-requires-clause-starts_within : goal.reached-requires-clause-starts_within
reached-requires-clause-starts_within g c =
    let has = parents_at _ _ _ _ c.self.view_is refl c.self.invariant.has_parents in
    let count : c.len.result ≡ length c.args.self.now = c.len.ensures ∙ ap length c.self.view_is in
    let children = c.in_ok-children.children in
    ends_within c.of-marked.result children.last c.in_ok-ends.ends.items c.len.result c.in_ok-ends.ensures.ends
    (within_at children.last (length c.args.self.now) c.len.result count (last_within _ _ _ _ has c.in_ok-children.ensures.members))

pub reached-requires-clause-one_within : goal.reached-requires-clause-one_within
reached-requires-clause-one_within g c =
    let has = parents_at _ _ _ _ c.self.view_is refl c.self.invariant.has_parents in
    let count : c.len.result ≡ length c.args.self.now = c.len.ensures ∙ ap length c.self.view_is in
    within_at c.in_ok-children.children.last (length c.args.self.now) c.len.result count (last_within _ _ _ _ has c.in_ok-children.ensures.members)

pub reached-requires-clause-other_within : goal.reached-requires-clause-other_within
reached-requires-clause-other_within g c =
    let has = parents_at _ _ _ _ c.self.view_is refl c.self.invariant.has_parents in
    let count : c.len.result ≡ length c.args.self.now = c.len.ensures ∙ ap length c.self.view_is in
    within_at c.in_ok-children.children.before (length c.args.self.now) c.len.result count (before_within _ _ _ _ has c.in_ok-children.ensures.before_each c.in_ok-children.ensures.members)

pub returns-clause-marks : goal.returns-clause-marks
returns-clause-marks g c =
    let has = parents_at _ _ _ _ c.self.view_is refl c.self.invariant.has_parents in
    let count : c.len.result ≡ length c.args.self.now = c.len.ensures ∙ ap length c.self.view_is in
    let children = c.in_ok-children.children in
    marks_at (λ x y. IsAncestor c.args.self.now x y) (length c.args.self.now) _ _ _ _ c.of-marked.ensures c.into_marks.ensures
    (descendants_marked c.args.self.now c.self.inside.parents children.last children.before c.of-marked.result c.in_ok-found.found c.in_ok-ends.ends.items has
    c.in_ok-children.ensures.before_each c.in_ok-children.ensures.members c.in_ok-ends.ensures.ends (c.in_ok-found.ensures.one_each ∙ count)
    c.in_ok-found.ensures.only c.in_ok-found.ensures.whole)

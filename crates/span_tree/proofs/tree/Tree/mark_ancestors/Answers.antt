use Rattle.std.proofs.Common.{◌≡◌, length, refl, ap, sym, subst, ◌∙◌}
use Rattle.span_tree.specs.Relations.{IsAncestor}
use Rattle.span_tree.specs.Reach.{LeadsWithin, Reaches}
use Rattle.span_tree.proofs.RelationLaws.{parents_at, marks_at, within_at, parents_within, ends_within, nowhere, ancestors_marked}
use Rattle.span_tree.proofs.tree.Tree.mark_ancestors.Goals as goal

pub reached-requires-clause-starts_within : goal.reached-requires-clause-starts_within
reached-requires-clause-starts_within g c =
    let has = parents_at _ _ _ _ c.self.view_is refl c.self.invariant.has_parents in
    let count : c.len.result ≡ length c.args.self.now = c.len.ensures ∙ ap length c.self.view_is in
    ends_within c.of-marked.result c.self.inside.parents c.in_ok-ends.ends.items c.len.result c.in_ok-ends.ensures.ends
    (within_at c.self.inside.parents (length c.args.self.now) c.len.result count (parents_within c.args.self.now c.self.inside.parents has))

pub reached-requires-clause-one_within : goal.reached-requires-clause-one_within
reached-requires-clause-one_within g c =
    let has = parents_at _ _ _ _ c.self.view_is refl c.self.invariant.has_parents in
    let count : c.len.result ≡ length c.args.self.now = c.len.ensures ∙ ap length c.self.view_is in
    within_at c.self.inside.parents (length c.args.self.now) c.len.result count (parents_within c.args.self.now c.self.inside.parents has)

pub reached-requires-clause-other_within : goal.reached-requires-clause-other_within
reached-requires-clause-other_within g c = subst (λ t. LeadsWithin t c.len.result) (sym c.nowhere-nowhere.ensures) (nowhere c.len.result)

pub returns-clause-marks : goal.returns-clause-marks
returns-clause-marks g c =
    let has = parents_at _ _ _ _ c.self.view_is refl c.self.invariant.has_parents in
    let count : c.len.result ≡ length c.args.self.now = c.len.ensures ∙ ap length c.self.view_is in
    marks_at (λ x y. IsAncestor c.args.self.now y x) (length c.args.self.now) _ _ _ _ c.of-marked.ensures c.into_marks.ensures
    (ancestors_marked c.args.self.now c.self.inside.parents c.of-marked.result c.in_ok-found.found c.in_ok-ends.ends.items has c.in_ok-ends.ensures.ends (c.in_ok-found.ensures.one_each ∙ count)
    (λ d h. subst (λ t. Reaches c.in_ok-ends.ends.items c.self.inside.parents t d) c.nowhere-nowhere.ensures (c.in_ok-found.ensures.only d h))
    (λ d r. c.in_ok-found.ensures.whole d (subst (λ t. Reaches c.in_ok-ends.ends.items c.self.inside.parents t d) (sym c.nowhere-nowhere.ensures) r)))

use Rattle.std.proofs.Common.{length, refl}
use Rattle.span_tree.specs.Relations.{IsParent}
use Rattle.span_tree.proofs.RelationLaws.{parents_at, marks_at, children_marked}
use Rattle.span_tree.proofs.tree.Tree.mark_children.Goals as goal

pub returns-clause-marks : goal.returns-clause-marks
returns-clause-marks g c =
    let has = parents_at _ _ _ _ c.self.view_is refl c.self.invariant.has_parents in
    marks_at (λ x y. IsParent c.args.self.now x y) (length c.args.self.now) _ _ _ _ c.of-marked.ensures c.into_marks.ensures
    (children_marked c.args.self.now c.self.inside.parents c.of-marked.result c.in_ok-found.found has c.in_ok-found.ensures.one_each c.in_ok-found.ensures.only c.in_ok-found.ensures.whole)

use Rattle.std.proofs.Common.{length, refl}
use Rattle.span_tree.specs.Relations.{IsSibling}
use Rattle.span_tree.proofs.RelationLaws.{families_at, marks_at, siblings_marked}
use Rattle.span_tree.proofs.tree.Tree.mark_siblings.Goals as goal

pub returns-clause-marks : goal.returns-clause-marks
returns-clause-marks g c =
    let has = families_at _ _ _ _ c.self.view_is refl c.self.invariant.has_families in
    let members = c.in_ok-members.members in
    marks_at (λ x y. IsSibling c.args.self.now x y) (length c.args.self.now) _ _ _ _ c.of-marked.ensures c.into_marks.ensures
    (siblings_marked c.args.self.now c.self.inside.families c.in_ok-kin.kin members.last members.before c.of-marked.result c.in_ok-found.found has
    c.in_ok-kin.ensures.one_each c.in_ok-kin.ensures.kept c.in_ok-members.ensures.members c.in_ok-found.ensures.one_each c.in_ok-found.ensures.marks)

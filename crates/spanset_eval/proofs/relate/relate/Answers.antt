use Rattle.std.proofs.Common.{length, subst}
use Rattle.span_tree.specs.Marking.{IsMarked}
use Rattle.span_tree.specs.Nodes.{nodes_of}
use Rattle.spanset_eval.specs.Marked.{MarksSet}
use Rattle.spanset_eval.specs.Sets.{Structural, Relates}
use Rattle.spanset_eval.proofs.SelectLaws.{if_ok}
use Rattle.spanset_eval.proofs.relate.relate.Goals as goal

pub returns-then-not-both_marked-clause-marks : goal.returns-then-not-both_marked-clause-marks
returns-then-not-both_marked-clause-marks g c =
    let rows = c.args.rows.now in
    let related = Structural c.args.side (Relates c.args.relation (nodes_of rows)) (IsMarked c.args.left) (IsMarked c.args.right) in
    if_ok c.unrelated.result _ (MarksSet (length rows) related)
    (λ marks all. subst (λ n. MarksSet n related marks) c.requires.right_each (all c.args.relation (nodes_of rows)))
    c.unrelated.ensures

use Rattle.std.proofs.Common.{◌||◌, length, sym, subst}
use Rattle.span_tree.specs.Marking.{IsMarked, MarksExactly}
use Rattle.spanset_eval.specs.Marked.{mark_at, MarksBy, MarksSet}
use Rattle.spanset_eval.specs.Sets.{Relates, Structural}
use Rattle.spanset_eval.proofs.MarkLaws.{both_marks}
use Rattle.spanset_eval.proofs.SelectLaws.{if_ok}
use Rattle.spanset_eval.proofs.relate.structural.Goals as goal

pub returns : goal.returns
returns g c =
    let n = length c.args.tree.now in
    let R = Relates c.args.relation c.args.tree.now in
    let l = c.args.left.now in
    let r = c.args.right.now in
    let on_right = c.in_ok-on_right-in-Both.on_right in
    let on_left = c.in_ok-on_left-in-Both.on_left in
    if_ok c.either.result (MarksBy (length on_right) (λ y. mark_at on_right y || mark_at on_left y)) (MarksSet n (Structural c.args.side R (IsMarked l) (IsMarked r)))
    (λ m h. subst (λ s. MarksSet n (Structural s R (IsMarked l) (IsMarked r)) m) (sym c.in-Both.is)
    (both_marks c.args.relation c.args.tree.now n l r c.in_ok-reached.reached c.in_ok-reaching-in-Both.reaching on_right on_left m c.requires.left_each c.requires.right_each
    c.in_ok-reached.ensures (subst (λ q. MarksExactly (Relates q c.args.tree.now) n r c.in_ok-reaching-in-Both.reaching) c.opposite.ensures c.in_ok-reaching-in-Both.ensures)
    c.in_ok-on_right-in-Both.ensures c.in_ok-on_left-in-Both.ensures h))
    c.either.ensures

use Rattle.spanset_eval.specs.Marked.{mark_at}
use Rattle.spanset_eval.proofs.marks.marked.Goals as goal
use Rattle.spanset_eval.proofs.marks.marked.Goals.{then-mark+in_ok-push, else-mark}
use Rattle.spanset_eval.proofs.SelectLaws.{marked_more, marked_none}

pub loop-position-preserved : goal.loop-position-preserved
loop-position-preserved c = elim c.if-mark.branch [
  | then-mark+in_ok-push w ↦
      let more = marked_more (mark_at c.as_slice-mark-items.result.now) c.loop-position.position w.if-mark.true in
      let pushed = w.in_ok-push.ensures.items in
      cc
  | else-mark w ↦ let same = marked_none (mark_at c.as_slice-mark-items.result.now) c.loop-position.position w.if-mark.false in cc
]

use Rattle.spanset_eval.specs.Outcomes.{hit_at}
use Rattle.spanset_eval.specs.Showing.{view_fields, view_rows}
use Rattle.spanset_eval.proofs.CutLaws.{at_most_next}
use Rattle.spanset_eval.proofs.show.TraceView.hits.Goals as goal

pub loop-position-preserved : goal.loop-position-preserved
loop-position-preserved c =
    let v = c.args.self.now in
    let more = at_most_next v.most (hit_at (view_fields v) (view_rows v)) c.args.members.now c.loop-position.position-index 0 c.loop-position-test.true in
    cc c.in_ok-add_hit.ensures

use Rattle.std.proofs.lemmas.Result.{err_from_is_err_and}
use Rattle.head_log.proofs.ReadingLoops.{runs_go_on, runs_fail, runs_done}
use Rattle.head_log.proofs.groups.runs.Goals as goal

pub returns-in_err-run : goal.returns-in_err-run
returns-in_err-run g c =
    let p = err_from_is_err_and c.from_residual.result c.from_residual.ensures.1 in
    rw (p.1, p.2) (runs_fail c.in_err-run.field-0.0 _ c.args.count c.loop-index.index c.loop-index.spans.items c.loop-index.reader _ c.loop-index-test.true c.in_err-run.ensures c.loop-index.invariant)

pub loop-index-preserved : goal.loop-index-preserved
loop-index-preserved g c = runs_go_on _ c.args.count c.loop-index.index c.loop-index.spans.items _ c.loop-index.reader _ _ c.loop-index-test.true c.in_ok-run.ensures c.loop-index.invariant

pub returns : goal.returns
returns g c = runs_done _ c.args.count c.loop-index.index c.loop-index.spans.items c.loop-index.reader _ c.loop-index-test.false c.loop-index.invariant

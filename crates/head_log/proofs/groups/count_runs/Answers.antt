use Rattle.std.proofs.Common.{ap, arith, length, ◌∙◌}
use Rattle.std.proofs.lemmas.List.{length-append}
use Rattle.span_runs.specs.Runs.{as_run}
use Rattle.head_log.proofs.Promised.{one_run}
use Rattle.head_log.proofs.groups.count_runs.Goals as goal

pub loop-rest-preserved : goal.loop-rest-preserved
loop-rest-preserved g c =
    let h = c.loop-rest.invariant in
    let e = c.first.ensures in
    let size = ap length e.whole ∙ length-append c.first.result.0.now c.first.result.1.now in
    let count = ap length e.runs ∙ length-append (as_run c.first.result.0.now) _ in
    let one = one_run c.first.result.0.now e.some in
    (omega (arith, h.0, count, one), omega (arith, h.1, size, e.some))

use Rattle.std.proofs.Common.{◌<◌, length, arith}
use Rattle.traceql_syntax.specs.Trees.{stage_tree}
use Rattle.traceql_types.specs.Refusals.{stage_refusals}
use Rattle.traceql_types.proofs.Flat.{flat_more}
use Rattle.traceql_types.proofs.queries.stages_refusal.Goals as goal

pub loop-stage-preserved : goal.loop-stage-preserved
loop-stage-preserved c =
    let items = c.as_slice-stage-items.result.now in
    let within : c.loop-stage.stage-index < length items = omega arith in
    rw (flat_more stage_refusals stage_tree items c.loop-stage.stage-index c.stage-item.result within, ← c.stage-item.is)
    (c.earlier-first.ensures _ _ c.loop-stage.invariant c.stage_refusal.ensures)

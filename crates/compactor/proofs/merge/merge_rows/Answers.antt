use Rattle.std.proofs.Common.{List, ap, ◌∙◌}
use Rattle.std.specs.List.{flat_map}
use Rattle.span_types.specs.declared.spans.Row.{Row}
use Rattle.rows_by_trace.specs.Traces.{rows_of_trace}
use Rattle.compactor.proofs.ByTrace.{alike_by_trace}
use Rattle.compactor.proofs.merge.merge_rows.Goals as goal

pub returns : goal.returns
returns c =
    alike_by_trace c.in_ok-sorted.sorted (flat_map (λ (rows : List Row). rows) c.args.parts) c.in_ok-firsts.firsts
    (λ t. c.in_ok-sorted.ensures.groups t ∙ ap (rows_of_trace t) c.in_ok-rows.ensures) c.in_ok-firsts.ensures

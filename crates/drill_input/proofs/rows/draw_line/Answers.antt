use Rattle.std.proofs.Common.{ap, ◌∙◌}
use Rattle.span_types.specs.Promises.{all_zero}
use Rattle.drill_input.specs.declared.span.Origin.{Origin}
use Rattle.drill_input.specs.Drill.{origin_of}
use Rattle.drill_input.proofs.rows.draw_line.Goals as goal

pub draw_rows-requires-clause-named : goal.draw_rows-requires-clause-named
unfolding origin_of
draw_rows-requires-clause-named c = ap (λ (o : Origin). all_zero o.trace.0) c.in_ok-origin.ensures.is ∙ c.draw_trace-trace.ensures.named

use Rattle.std.proofs.Common.{List, ◌++◌, ap, ◌∙◌}
use Rattle.span_types.specs.declared.spans.Row.{Row}
use Rattle.block_build.proofs.order.settle.Goals as goal

pub returns-clause-added : goal.returns-clause-added
returns-clause-added c = record {
  firsts = c.in_ok-found.found.items;
  are_first = c.in_ok-found.ensures;
  added = c.in_ok-add_rows.ensures ∙ ap (λ (l : List Row). c.args.firsts.now.items ++ l) c.as_slice.ensures.value;
}

use Rattle.std.proofs.Common.{List, ◌++◌, ap, subst, ◌∙◌, Vec, Global}
use Rattle.span_types.specs.declared.spans.Row.{Row}
use Rattle.span_types.specs.First.{IsFirstOf}
use Rattle.compactor.proofs.merge.settle.Goals as goal

pub returns-clause-added : goal.returns-clause-added
returns-clause-added c = record {
  firsts = c.in_ok-rows.rows;
  are_first = subst (λ (l : List Row). IsFirstOf l c.in_ok-rows.rows) (c.of.ensures ∙ ap (λ (v : Vec Row Global). v.items) c.replace-rows.ensures.value) c.in_ok-rows.ensures;
  added = c.in_ok-append.ensures.items ∙ ap (λ (l : List Row). c.args.firsts.now.items ++ l) c.into_vec-rows.ensures;
}

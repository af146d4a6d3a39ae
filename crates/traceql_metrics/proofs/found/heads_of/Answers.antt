use Rattle.std.proofs.Common.{rules, ◌∙◌, ap}
use Rattle.std.specs.List.{dedup}
use Rattle.std.proofs.lemmas.Fn.{dedup_same}
use Rattle.traceql_metrics.specs.Grouping.{same_values}
use Rattle.traceql_metrics.proofs.found.heads_of.Goals as goal

pub returns : goal.returns
returns c = dedup_same _ same_values _ (λ x y b f' x' y' k. search rules) _ _ c.dedup_by.ensures.filtered ∙ ap (dedup same_values) c.in_ok-heads.ensures

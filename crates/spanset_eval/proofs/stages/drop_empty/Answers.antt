use Rattle.std.proofs.Common.{rules}
use Rattle.std.proofs.lemmas.List.Elements.{filter_from_retain}
use Rattle.spanset_eval.specs.Stages.{has_spans}
use Rattle.spanset_eval.proofs.stages.drop_empty.Goals as goal

pub returns : goal.returns
returns c = filter_from_retain _ has_spans (λ p x b q h. search rules) _ _ _ c.retain.ensures.filtered

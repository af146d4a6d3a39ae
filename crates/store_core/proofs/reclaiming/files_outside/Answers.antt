use Rattle.std.proofs.Common.{rules, ◌∙◌, ap, filter, not, List, ℕ}
use Rattle.std.proofs.lemmas.Fn.{filter_same}
use Rattle.store_model.specs.State.{is_among}
use Rattle.store_core.proofs.reclaiming.files_outside.Goals as goal

pub returns : goal.returns
returns c = filter_same _ _ _ (λ x b f' k. search rules) _ _ c.retain.ensures.filtered ∙ ap (λ (l : List ℕ). filter (λ (x : ℕ). not (is_among x c.args.rising.now)) l) (search rules)
